use Rattle.std.proofs.Common.{◌≡◌, ℕ, ◌<◌, ◌≤◌, ◌-◌, length, get_or}
use Rattle.vt_screen.proofs.line.fill_cells.Given as goal

-- the cells before the place are written
abbrev pub invariant-loop-cells : goal.invariant-loop-cells
invariant-loop-cells g l = record {
  within : l.at ≤ length l.cells;
  written : (k : ℕ) → k < l.at → get_or l.cells k g.C.Cells.cells.blank ≡ l.cell;
}

abbrev pub decreases-loop-cells : goal.decreases-loop-cells
decreases-loop-cells g l = length l.cells - l.at
