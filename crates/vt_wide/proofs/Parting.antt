-- What the bodies leave is what the definitions say.
use Rattle.std.proofs.Common.{◌≡◌, arith, ap, ℕ, ◌+◌, ◌-◌, ◌≤◌, Bool, true, false, ◌&&◌, ◌==◌, if◌then◌else◌, inl, inr, refl, sym, ◌∙◌}
use Rattle.std.specs.Prelude.{nat_le, nat_lt}
use Rattle.std.proofs.lemmas.Bool.Decides.{nat_tests, eqb_tells, leb_tells}
use Rattle.vt_screen.specs.Grid.{GridOf, IsGrid, at_or, row_any, changed_any, columns_of, is_within, put_any}
use Rattle.vt_screen.proofs.Places.{grid_of-same, grid_of-cell_at, cell_at-grid_of}
use Rattle.vt_wide.specs.Kinds.{WideOf}
use Rattle.vt_wide.specs.Edits.{is_parted, parted, parted_row, run_any}

pub parted_then : {C : Type 0} (k : WideOf C) (z : C) (change : C → C) (g : GridOf C) (row col : ℕ) → is_parted k z g row col ≡ true
    → changed_any z change g (columns_of row (col - 1) col) ≡ parted_row k z change g row col
unfolding parted
parted_then k z change g row col is = grid_of-same g.size g.width _ _ (λ r c r1 rh c1 cw. elim (eqb_tells r row) [
  | inl e ↦ rw (e.0, e.1, is) refl
  | inr e ↦ rw e.0 refl
])

pub parted_else : {C : Type 0} (k : WideOf C) (z : C) (change : C → C) (g : GridOf C) (row col : ℕ) → is_parted k z g row col ≡ false
    → IsGrid g → g ≡ parted_row k z change g row col
unfolding parted
parted_else k z change g row col is grid = sym (grid_of-same g.size g.width _ (at_or z g) (λ r c r1 rh c1 cw. elim (eqb_tells r row) [
  | inl e ↦ rw (e.0, e.1, is) refl
  | inr e ↦ rw e.0 refl
]) ∙ grid_of-cell_at z g grid.cells)

-- a cell is put into a row that a formula gave
pub row_put : {C : Type 0} (z : C) (g : GridOf C) (row col : ℕ) (p : ℕ → C) (cell : C)
    → put_any z (row_any z g row p) row col cell ≡ row_any z g row (λ c. if c == col then cell else p c)
row_put z g row col p cell = grid_of-same g.size g.width _ _ (λ r c r1 rh c1 cw.
    let was = cell_at-grid_of z g.size g.width (λ i j. if i == row then p j else at_or z g i j) r c r1 rh c1 cw in
    elim (eqb_tells r row) [
      | inl e ↦ rw e.0 (ap (λ x. if c == col then cell else x)
          (ap (λ x. at_or z (row_any z g row p) x c) (sym e.1) ∙ was ∙ rw e.0 refl))
      | inr e ↦ rw (e.0, was) (rw e.0 refl)
    ])

pub row_same : {C : Type 0} (z : C) (g : GridOf C) (row : ℕ) (p q : ℕ → C) → ((c : ℕ) → 1 ≤ c → c ≤ g.width → p c ≡ q c)
    → row_any z g row p ≡ row_any z g row q
row_same z g row p q same = grid_of-same g.size g.width _ _ (λ r c r1 rh c1 cw. elim (eqb_tells r row) [
  | inl e ↦ rw e.0 (same c c1 cw)
  | inr e ↦ rw e.0 refl
])

-- the two cells of a wide character are changed one after the other
pub two_then : {C : Type 0} (k : WideOf C) (z : C) (change : C → C) (g h i : GridOf C) (row col : ℕ) (a b : C)
    → is_parted k z g row col ≡ true → h ≡ put_any z g row (col - 1) a → a ≡ change (at_or z g row (col - 1))
    → i ≡ put_any z h row col b → b ≡ change (at_or z g row col) → i ≡ parted_row k z change g row col
unfolding parted
two_then {C = C} k z change g h i row col a b is first is_a second is_b =
    let low : 2 ≤ col = grind (arith, nat_tests, is) in
    second ∙ ap (λ (x : GridOf C). put_any z x row col b) first
    ∙ row_put z g row col (λ c. if c == col - 1 then a else at_or z g row c) b
    ∙ grid_of-same g.size g.width _ _ (λ r c r1 rh c1 cw. elim (eqb_tells r row) [
      | inl e ↦ elim (eqb_tells c col) [
        | inl f ↦ rw (e.0, f.0, e.1, f.1, is, is_b) (grind (arith, nat_tests, low))
        | inr f ↦ elim (eqb_tells c (col - 1)) [
          | inl d ↦ rw (e.0, f.0, d.0, e.1, d.1, is, is_a) (grind (arith, nat_tests, low))
          | inr d ↦ rw (e.0, f.0, d.0, e.1, is) (grind (arith, nat_tests, low, f.1, d.1))
        ]
      ]
      | inr e ↦ rw e.0 refl
    ])

-- one cell more of a run
pub run_none : {C : Type 0} (z : C) (cell_of : ℕ → C) (g : GridOf C) (row col : ℕ) → IsGrid g → g ≡ run_any z cell_of g row col 0
run_none z cell_of g row col grid = sym (grid_of-same g.size g.width _ (at_or z g) (λ r c r1 rh c1 cw. elim (eqb_tells r row) [
  | inl e ↦ rw (e.0, e.1) (grind (arith, nat_tests))
  | inr e ↦ rw e.0 refl
]) ∙ grid_of-cell_at z g grid.cells)

pub run_more : {C : Type 0} (z : C) (cell_of : ℕ → C) (g h : GridOf C) (row col n : ℕ) → h ≡ run_any z cell_of g row col n
    → put_any z h row (col + n) (cell_of n) ≡ run_any z cell_of g row col (n + 1)
run_more {C = C} z cell_of g h row col n is =
    ap (λ (x : GridOf C). put_any z x row (col + n) (cell_of n)) is
    ∙ row_put z g row (col + n) _ (cell_of n)
    ∙ row_same z g row _ _ (λ c c1 cw. elim (eqb_tells c (col + n)) [
      | inl e ↦
          let place : c - col ≡ n = omega (arith, e.1) in
          rw (e.0, place) (grind (arith, nat_tests, e.1))
      | inr e ↦ rw e.0 (grind (arith, nat_tests, e.1))
    ])

-- the left edge of a column is as before, if its cell is
pub parted_same : {C : Type 0} (k : WideOf C) (z : C) (g h : GridOf C) (r col : ℕ) → g.width ≡ h.width
    → (1 ≤ col → col ≤ g.width → at_or z g r col ≡ at_or z h r col) → is_parted k z g r col ≡ is_parted k z h r col
parted_same k z g h r col wide same = elim (leb_tells 2 col) [
  | inl low ↦ elim (leb_tells col g.width) [
    | inl high ↦
        let there : nat_le col h.width ≡ true = ap (nat_le col) (sym wide) ∙ high.0 in
        rw (low.0, high.0, there, same (omega (arith, low)) high.1) refl
    | inr high ↦
        let there : nat_le col h.width ≡ false = ap (nat_le col) (sym wide) ∙ high.0 in
        rw (low.0, high.0, there) refl
  ]
  | inr low ↦ rw low.0 refl
]

-- one row more, or none
pub rows_none : {C : Type 0} (k : WideOf C) (z : C) (change : C → C) (g : GridOf C) (top col : ℕ) → IsGrid g
    → g ≡ parted k z change g (λ r. nat_le top r && nat_lt r top) col
unfolding parted
rows_none k z change g top col grid = sym (grid_of-same g.size g.width _ (at_or z g) (λ r c r1 rh c1 cw. grind (arith, nat_tests))
    ∙ grid_of-cell_at z g grid.cells)

pub rows_more : {C : Type 0} (k : WideOf C) (z : C) (change : C → C) (g h : GridOf C) (top row col : ℕ) → top ≤ row → row ≤ g.size.rows
    → h ≡ parted k z change g (λ r. nat_le top r && nat_lt r row) col
    → parted_row k z change h row col ≡ parted k z change g (λ r. nat_le top r && nat_lt r (row + 1)) col
unfolding parted
rows_more {C = C} k z change g h top row col low high is =
    ap (λ (x : GridOf C). changed_any z change x (λ r c. (r == row && is_parted k z x r col) && is_within (col - 1) col c)) is
    ∙ grid_of-same g.size g.width _ _ (λ r c r1 rh c1 cw.
    let area : ℕ → ℕ → Bool = λ r c. ((nat_le top r && nat_lt r row) && is_parted k z g r col) && is_within (col - 1) col c in
    let was = cell_at-grid_of z g.size g.width (λ i j. if area i j then change (at_or z g i j) else at_or z g i j) in
    elim (eqb_tells r row) [
      | inl e ↦
          let out : (c : ℕ) → area row c ≡ false = λ c. grind (arith, nat_tests) in
          let edge : is_parted k z (changed_any z change g area) row col ≡ is_parted k z g row col =
          parted_same k z (changed_any z change g area) g row col refl (λ c1 cw. was row col (omega (arith, e.1, r1)) high c1 cw ∙ rw (out col) refl) in
          rw (e.0, e.1, edge, was row c (omega (arith, e.1, r1)) high c1 cw, out c) (grind (arith, nat_tests, low))
      | inr e ↦ rw (e.0, was r c r1 rh c1 cw) (grind (arith, nat_tests, low, e.1))
    ])

pub rows_all : {C : Type 0} (k : WideOf C) (z : C) (change : C → C) (g : GridOf C) (top bottom end col : ℕ) → end ≡ bottom + 1
    → parted k z change g (λ r. nat_le top r && nat_lt r end) col ≡ parted k z change g (is_within top bottom) col
unfolding parted
rows_all k z change g top bottom end col is = grid_of-same g.size g.width _ _ (λ r c r1 rh c1 cw. grind (arith, nat_tests, is))
