-- The values so far, and a new one begins.
use Rattle.std.proofs.Common.{◌-◌, ◌<◌, ◌≤◌, ◌++◌, [], ◌∷◌, length, take}
use Rattle.vt_syntax.specs.Whole.{AreRead}
use Rattle.vt_syntax.proofs.front.read_list.Given as goal

abbrev pub invariant-loop-at : goal.invariant-loop-at
invariant-loop-at l = record {
  within : l.at ≤ length l.piece;
  few : l.count ≤ 16;
  reads : l.count < 16 → AreRead l.piece l.at l.fn.marker (take l.count l.list ++ 0 ∷ []);
}

abbrev pub decreases-loop-at : goal.decreases-loop-at
decreases-loop-at l = length l.piece - l.at
