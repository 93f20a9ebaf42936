-- The bytes before the place are shown as themselves.
use Rattle.std.proofs.Common.{take}
use Rattle.std.specs.Prelude.{All}
use Rattle.vt_trace.specs.Runs.{IsShown}
use Rattle.vt_trace.proofs.items.are_shown.Given as goal

abbrev pub invariant-loop-b : goal.invariant-loop-b
invariant-loop-b l = All IsShown (take l.b-index l.bytes)
