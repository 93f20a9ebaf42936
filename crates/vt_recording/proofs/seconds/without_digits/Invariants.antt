use Rattle.std.proofs.Common.{◌≡◌}
use Rattle.vt_recording.specs.Seconds.{without_digits}
use Rattle.vt_recording.proofs.seconds.without_digits.Given as goal

abbrev pub invariant-loop-left : goal.invariant-loop-left
invariant-loop-left l = without_digits l.left l.n ≡ without_digits l.count l.number

abbrev pub decreases-loop-left : goal.decreases-loop-left
decreases-loop-left l = l.left
