-- The bytes before the place are written.
use Rattle.std.proofs.Common.{◌≡◌, ◌++◌, take}
use Rattle.vt_trace.specs.Lines.{shown}
use Rattle.vt_replay.proofs.events.push_all_shown.Given as goal

abbrev pub invariant-loop-b : goal.invariant-loop-b
invariant-loop-b l = record { items : l.out.items ≡ l.fn.out.items ++ shown (take l.b-index l.bytes) }
