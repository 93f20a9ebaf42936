-- Areas that get other cells, row by row.
use Rattle.std.specs.Prelude.{if◌then◌else◌}
use Rattle.std.proofs.Common.{◌≡◌, Bool, ◌||◌, ℕ, arith, ◌∙◌, ◌≤◌, refl, false}
use Rattle.std.proofs.lemmas.Bool.Decides.{nat_tests}
use Rattle.vt_screen.specs.Grid.{GridOf, IsGrid, at_or, columns_of}
use Rattle.vt_screen.proofs.Places.{cell_at-grid_of, grid_of-same, grid_of-cell_at}
use Rattle.vt_screen.specs.Between.{given_any}

-- an area without places
pub given_none : {C : Type 0} (z : C) (g : GridOf C) (A : ℕ → ℕ → Bool) (f : ℕ → ℕ → C) → IsGrid g
    → ((i j : ℕ) → A i j ≡ false) → given_any z g A f ≡ g
given_none {C = C} z g A f is none =
    grid_of-same g.size g.width (λ i j. if A i j then f i j else at_or z g i j) (at_or z g)
    (λ i j i1 i24 j1 jw. rw (none i j) refl)
    ∙ grid_of-cell_at z g is.cells

-- areas of the same places
pub given_same : {C : Type 0} (z : C) (g : GridOf C) (A B : ℕ → ℕ → Bool) (f : ℕ → ℕ → C) → ((i j : ℕ) → A i j ≡ B i j)
    → given_any z g A f ≡ given_any z g B f
given_same {C = C} z g A B f same =
    grid_of-same g.size g.width (λ i j. if A i j then f i j else at_or z g i j) (λ i j. if B i j then f i j else at_or z g i j)
    (λ i j i1 i24 j1 jw. rw (same i j) refl)

-- outside the area the cell is as before
pub given_read : {C : Type 0} (z : C) (g : GridOf C) (A : ℕ → ℕ → Bool) (f : ℕ → ℕ → C) (r c : ℕ) → 1 ≤ r → r ≤ g.size.rows
    → 1 ≤ c → c ≤ g.width → A r c ≡ false → at_or z (given_any z g A f) r c ≡ at_or z g r c
given_read {C = C} z g A f r c r1 r24 c1 cw out =
    cell_at-grid_of z g.size g.width (λ i j. if A i j then f i j else at_or z g i j) r c r1 r24 c1 cw ∙ rw out refl

-- the next row gets its cells
pub given_row : {C : Type 0} (z : C) (g : GridOf C) (A B : ℕ → ℕ → Bool) (f h : ℕ → ℕ → C) (row left right : ℕ)
    → ((j : ℕ) → left ≤ j → j ≤ right → h row j ≡ f row j)
    → ((i j : ℕ) → B i j ≡ (columns_of row left right i j || A i j))
    → given_any z (given_any z g A f) (columns_of row left right) h ≡ given_any z g B f
given_row {C = C} z g A B f h row left right is same =
    grid_of-same g.size g.width
    (λ i j. if columns_of row left right i j then h i j else at_or z (given_any z g A f) i j)
    (λ i j. if B i j then f i j else at_or z g i j)
    (λ i j i1 i24 j1 jw.
    let was = cell_at-grid_of z g.size g.width (λ p q. if A p q then f p q else at_or z g p q) i j i1 i24 j1 jw in
    let next = same i j in
    let here = is j in
    grind (arith, nat_tests, was, next, here))
