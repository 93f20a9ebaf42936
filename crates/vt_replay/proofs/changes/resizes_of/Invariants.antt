use Rattle.std.proofs.Common.{◌≡◌, ◌-◌, ◌++◌, length, drop, All}
use Rattle.vt_screen.specs.Sizes.{IsSize}
use Rattle.vt_replay.specs.Resizes.{resizes_of}
use Rattle.vt_replay.proofs.changes.resizes_of.Given as goal

abbrev pub invariant-loop-i : goal.invariant-loop-i
invariant-loop-i l = record {
  ahead : l.resizes.items ++ resizes_of l.spot.before l.spot.at (drop l.i l.changes) ≡ resizes_of l.before 0 l.changes;
  sizes : All (λ r. IsSize r.size) l.resizes.items;
}

abbrev pub decreases-loop-i : goal.decreases-loop-i
decreases-loop-i l = length l.changes - l.i
