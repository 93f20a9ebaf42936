use Rattle.std.proofs.Common.{◌≡◌, ℕ, ◌<◌, get_or}
use Rattle.vt_screen.proofs.line.fill_each.Given as goal

-- the cells before this one are written
abbrev pub invariant-loop-place : goal.invariant-loop-place
invariant-loop-place g l = (k : ℕ) → k < l.place-index → get_or l.cells k g.C.Cells.cells.blank ≡ l.cell
