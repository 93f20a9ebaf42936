use Rattle.std.proofs.Common.{◌≡◌, ◌⊎◌, ℕ, ◌≤◌, ◌<◌}
use Rattle.vt_screen.specs.Order.{stored_or}
use Rattle.vt_screen.proofs.screen.fill_rows.Given as goal

-- the rows before this one are written, and the others are as they were
abbrev pub invariant-loop-row : goal.invariant-loop-row
invariant-loop-row g l = record {
  written : (r c : ℕ) → l.first ≤ r → r < l.row → 1 ≤ c → c ≤ l.width → stored_or g.C.Cells.cells.blank l.order l.cells r c ≡ l.cell;
  left : (r c : ℕ) → 1 ≤ r → r ≤ l.order.size.rows → (r < l.first) ⊎ (l.row ≤ r) → 1 ≤ c → c ≤ l.width
      → stored_or g.C.Cells.cells.blank l.order l.cells r c ≡ stored_or g.C.Cells.cells.blank l.order l.initial.cells r c;
}
