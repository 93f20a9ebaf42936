use Rattle.std.proofs.Common.{◌≡◌, ℕ, ◌≤◌, ◌<◌}
use Rattle.vt_screen.specs.Grid.{row_or}
use Rattle.vt_screen.proofs.screen.Screen.same.Given as goal

-- the rows before this one are equal
abbrev pub invariant-loop-row : goal.invariant-loop-row
invariant-loop-row g l = (r : ℕ) → 1 ≤ r → r < l.row → row_or g.C.Cells.cells.blank l.self r ≡ row_or g.C.Cells.cells.blank l.other r
