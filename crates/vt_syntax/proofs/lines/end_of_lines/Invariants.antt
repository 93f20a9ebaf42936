-- The bytes passed so far are of lines.
use Rattle.std.proofs.Common.{◌-◌, length, not}
use Rattle.vt_syntax.specs.Class.{is_of_lines}
use Rattle.vt_syntax.proofs.Runs.{HasPassed}
use Rattle.vt_syntax.proofs.lines.end_of_lines.Given as goal

abbrev pub invariant-loop-at : goal.invariant-loop-at
invariant-loop-at l = HasPassed (λ b. not (is_of_lines b)) l.piece 0 l.at

abbrev pub decreases-loop-at : goal.decreases-loop-at
decreases-loop-at l = length l.piece - l.at
