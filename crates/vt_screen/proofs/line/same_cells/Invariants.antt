use Rattle.std.proofs.Common.{◌≡◌, ℕ, ◌<◌, ◌≤◌, ◌-◌, length, get_or}
use Rattle.vt_screen.specs.Cells.{blank}
use Rattle.vt_screen.proofs.line.same_cells.Given as goal

-- the cells before the place are the same
abbrev pub invariant-loop-at : goal.invariant-loop-at
invariant-loop-at l = record {
  long : length l.a ≡ length l.b;
  within : l.at ≤ length l.a;
  same : (k : ℕ) → k < l.at → get_or l.a k blank ≡ get_or l.b k blank;
}

abbrev pub decreases-loop-at : goal.decreases-loop-at
decreases-loop-at l = length l.a - l.at

abbrev pub invariant-loop-at-2 : goal.invariant-loop-at-2
invariant-loop-at-2 l = record {
  long : length l.a ≡ length l.b;
  within : l.at ≤ length l.a;
  same : (k : ℕ) → k < l.at → get_or l.a k blank ≡ get_or l.b k blank;
}

abbrev pub decreases-loop-at-2 : goal.decreases-loop-at-2
decreases-loop-at-2 l = length l.a - l.at
