use Rattle.std.proofs.Common.{◌≡◌, ℕ, ◌<◌, ◌≤◌, get_or}
use Rattle.vt_screen.proofs.line.erase_selectively.Given as goal

-- the cells before this one are erased, and the others are as they were
abbrev pub invariant-loop-cell : goal.invariant-loop-cell
invariant-loop-cell g l = record {
  erased : (k : ℕ) → k < l.cell-index → get_or l.cells k g.C.Cells.cells.blank ≡ g.C.Cells.cells.selectively_erased (get_or l.initial.cells k g.C.Cells.cells.blank);
  left : (k : ℕ) → l.cell-index ≤ k → get_or l.cells k g.C.Cells.cells.blank ≡ get_or l.initial.cells k g.C.Cells.cells.blank;
}
