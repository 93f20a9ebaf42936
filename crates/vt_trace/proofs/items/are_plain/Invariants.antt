-- The bytes before the place are plain.
use Rattle.std.proofs.Common.{take}
use Rattle.std.specs.Prelude.{All}
use Rattle.vt_syntax.specs.Class.{IsPlain}
use Rattle.vt_trace.proofs.items.are_plain.Given as goal

abbrev pub invariant-loop-b : goal.invariant-loop-b
invariant-loop-b l = All IsPlain (take l.b-index l.bytes)
