-- The grid that an edit of the cells of one row makes.
use Rattle.std.proofs.Common.{◌≡◌, ◌⊎◌, inl, inr, ℕ, ◌+◌, ◌-◌, ◌≤◌, ◌<◌, List, get_or, arith}
use Rattle.std.proofs.lemmas.Bool.Decides.{eqb_tells}
use Rattle.vt_screen.specs.Grid.{row_any}
use Rattle.vt_screen.proofs.Places.{grid_of-same, cell_at-grid_of}
use Rattle.vt_screen.proofs.Orders.{start-apart}
use Rattle.vt_screen.specs.Order.{Order, IsOrder, start_of, stored_or}
use Rattle.vt_screen.specs.Sizes.{stride}
use Rattle.vt_screen.specs.Grid.{grid_of}

-- cells that changed in one row alone
pub row-written : {C : Type 0} (z : C) (o : Order) (xs zs : List C) (w row : ℕ) (f : ℕ → C) → IsOrder o → 1 ≤ row → row ≤ o.size.rows
    → w ≤ stride o.size
    → ((c : ℕ) → 1 ≤ c → c ≤ w → get_or zs (start_of o row + (c - 1)) z ≡ f c)
    → ((i : ℕ) → (i < start_of o row) ⊎ (start_of o row + stride o.size ≤ i) → get_or zs i z ≡ get_or xs i z)
    → grid_of o.size w (stored_or z o zs) ≡ row_any z (grid_of o.size w (stored_or z o xs)) row f
row-written {C = C} z o xs zs w row f order row1 row24 narrow inside outside =
    grid_of-same o.size w _ _ (λ r c r1 r24 c1 cw. elim (eqb_tells r row) [
      | inl e ↦ rw (e.0, e.1) (inside c c1 cw)
      | inr e ↦ rw (e.0, cell_at-grid_of z o.size w (stored_or z o xs) r c r1 r24 c1 cw)
          (outside (start_of o r + (c - 1)) (elim (start-apart o order r row r1 r24 row1 row24 e.1) [
            | inl l ↦ inl (omega arith)
            | inr l ↦ inr (omega arith)
          ]))
    ])
