-- The cells before the place are the same.
use Rattle.std.proofs.Common.{◌≡◌, ℕ, ◌<◌, ◌≤◌, ◌-◌, length, get_or}
use Rattle.vt_xterm_cell.specs.Cells.{blank_cell}
use Rattle.vt_xterm_cell.proofs.cell.same_cells.Given as goal

abbrev pub invariant-loop-at : goal.invariant-loop-at
invariant-loop-at l = record {
  long : length l.a ≡ length l.b;
  within : l.at ≤ length l.a;
  same : (k : ℕ) → k < l.at → get_or l.a k blank_cell ≡ get_or l.b k blank_cell;
}

abbrev pub decreases-loop-at : goal.decreases-loop-at
decreases-loop-at l = length l.a - l.at
