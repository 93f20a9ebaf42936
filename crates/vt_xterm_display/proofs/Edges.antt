-- The cells of the last column, changed row by row.
use Rattle.std.proofs.Common.{◌≡◌, ℕ, ◌+◌, ◌≤◌, true, false, ◌==◌, ◌&&◌, if◌then◌else◌, nat_lt, inl, inr, refl, sym, ap, ◌∙◌, arith}
use Rattle.std.proofs.lemmas.Bool.Decides.{eqb_tells, nat_tests}
use Rattle.vt_screen.specs.Grid.{IsGrid, at_or, changed_any, put_any}
use Rattle.vt_screen.proofs.Places.{grid_of-same, grid_of-cell_at, cell_at-grid_of}
use Rattle.vt_xterm_cell.specs.Words.{CellParts}
use Rattle.vt_xterm_cell.specs.Cells.{blank_cell}
use Rattle.vt_xterm_display.specs.State.{Grid}
use Rattle.vt_xterm_display.specs.Resizing.{halved, edged}

-- in the rows before one
unfoldable pub edged_before : Grid → ℕ → Grid
edged_before g row = changed_any blank_cell halved g (λ r c. nat_lt r row && c == g.width)

pub edged-none : (g : Grid) → IsGrid g → g ≡ edged_before g 1
unfolding edged_before
edged-none g grid = sym (grid_of-same g.size g.width _ (at_or blank_cell g) (λ r c r1 rh c1 cw.
    let none : nat_lt r 1 ≡ false = grind (arith, nat_tests) in
    rw none refl) ∙ grid_of-cell_at blank_cell g grid.cells)

pub edged-more : (g h i : Grid) (row w : ℕ) (before after : CellParts) → 1 ≤ row → row ≤ g.size.rows → 1 ≤ g.width → w ≡ g.width
    → h ≡ edged_before g row → before ≡ at_or blank_cell h row w → after ≡ halved before → i ≡ put_any blank_cell h row w after
    → i ≡ edged_before g (row + 1)
unfolding edged_before
edged-more g h i row w before after low high some at is now change put =
    put ∙ ap (λ k. put_any blank_cell h row w k) (change ∙ ap halved now)
    ∙ ap (λ n. put_any blank_cell h row n (halved (at_or blank_cell h row n))) at
    ∙ ap (λ (x : Grid). put_any blank_cell x row g.width (halved (at_or blank_cell x row g.width))) is
    ∙ grid_of-same g.size g.width _ _ (λ r c r1 rh c1 cw.
    let was = cell_at-grid_of blank_cell g.size g.width
    (λ i j. if nat_lt i row && j == g.width then halved (at_or blank_cell g i j) else at_or blank_cell g i j) in
    let here : nat_lt row row ≡ false = grind (arith, nat_tests) in
    let next : nat_lt row (row + 1) ≡ true = grind (arith, nat_tests) in
    elim (eqb_tells r row) [
      | inl e ↦ elim (eqb_tells c g.width) [
        | inl d ↦ rw (e.0, d.0, e.1, d.1, was row g.width low high some (omega arith), here, next) refl
        | inr d ↦ rw (e.0, d.0, e.1, was row c low high c1 cw, here, next) refl
      ]
      | inr e ↦
          let same : nat_lt r (row + 1) ≡ nat_lt r row = grind (arith, nat_tests, e.1) in
          rw (e.0, was r c r1 rh c1 cw, same) refl
    ])

pub edged-all : (g : Grid) (end : ℕ) → end ≡ g.size.rows + 1 → edged_before g end ≡ edged g
unfolding edged_before
edged-all g end is = grid_of-same g.size g.width _ _ (λ r c r1 rh c1 cw.
    let all : nat_lt r end ≡ true = grind (arith, nat_tests, is, rh) in
    rw all refl)
