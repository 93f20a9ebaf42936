-- The bytes taken so far gave no event.
use Rattle.std.proofs.Common.{◌≡◌, ◌-◌, ◌≤◌, [], length, take}
use Rattle.vt_syntax.specs.Steps.{step_to, steps}
use Rattle.vt_syntax.proofs.parser.next_held.Given as goal

abbrev pub invariant-loop-bytes : goal.invariant-loop-bytes
invariant-loop-bytes l = record {
  within : l.bytes ≤ length l.piece;
  holds : steps l.fn.held (take l.bytes l.piece) ≡ step_to l.held [];
}

abbrev pub decreases-loop-bytes : goal.decreases-loop-bytes
decreases-loop-bytes l = length l.piece - l.bytes
