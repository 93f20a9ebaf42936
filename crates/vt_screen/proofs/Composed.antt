-- Maps of maps: runs; and tests that each cell passes.
use Rattle.std.proofs.Common.{◌≡◌, ◌≢◌, inl, inr, Bool, ◌&&◌, ◌==◌, if◌then◌else◌, ℕ, ◌+◌, ◌-◌, ◌*◌}
use Rattle.std.proofs.Common.{◌/◌, ◌%◌, ◌≤◌, ◌<◌, ◌++◌, List, [], ◌∷◌, length, get_or, IsTrue, arith, refl, sym, ap}
use Rattle.std.proofs.Common.{◌∙◌, length-append}
use Rattle.std.proofs.lemmas.Bool.Decides.{eqb_tells}
use Rattle.std.proofs.lemmas.Bool.{cases_lt}
use Rattle.std.proofs.lemmas.List.{get_or-append_right, get_or_past}
use Rattle.std.proofs.lemmas.List.Elements.{All-get_or}
use Rattle.std.proofs.lemmas.List.FromFn.{get_or-map-range_with_len, length-map-range_with_len}
use Rattle.std.proofs.Math.ListN.{get_or-append}
use Rattle.std.proofs.Math.Nat.{mod-lt, div-lt_iff_lt-mul}
use Rattle.std.proofs.Math.Dec.{leb, ltb}
use Rattle.vt_screen.specs.Grid.{GridOf, at_or}
use Rattle.vt_screen.proofs.Places.{grid_of-same, grid_of-cell_at, cell_at-grid_of, columns-any}
use Rattle.vt_screen.proofs.Maps.{among-before}
use Rattle.vt_screen.specs.declared.cell.Cell.{Cell}
use Rattle.vt_screen.specs.Cells.{cell_like}
use Rattle.vt_screen.specs.Grid.{Grid, IsGrid, AllCells, grid_of, cells_of, cell_at, with_row, put, put_run}
use Rattle.vt_screen.specs.declared.size.Size.{Size}

-- ---- grids

pub grids-same : (g h : Grid) → IsGrid g → IsGrid h → g.size ≡ h.size → g.width ≡ h.width
    → ((r c : ℕ) → 1 ≤ r → r ≤ g.size.rows → 1 ≤ c → c ≤ g.width → cell_at g r c ≡ cell_at h r c) → g ≡ h
grids-same g h is_g is_h sizes wide same =
    sym (grid_of-cell_at _ g is_g.cells)
    ∙ grid_of-same g.size g.width (cell_at g) (cell_at h) same
    ∙ ap (λ w. grid_of g.size w (cell_at h)) wide
    ∙ ap (λ s. grid_of s h.width (cell_at h)) sizes
    ∙ grid_of-cell_at _ h is_h.cells

-- the row that a formula gives, and the others
cell_at-with_row : (g : Grid) (row : ℕ) (f : ℕ → Cell) (c : ℕ) → 1 ≤ row → row ≤ g.size.rows → 1 ≤ c → c ≤ g.width
    → cell_at (with_row g row f) row c ≡ f c
cell_at-with_row g row f c row1 row24 c1 cw =
    cell_at-grid_of _ g.size g.width (λ r c. if r == row then f c else cell_at g r c) row c row1 row24 c1 cw
    ∙ elim (eqb_tells row row) [ inl e ↦ rw e.0 refl | inr e ↦ absurd (e.1 refl) ]

cell_at-other_row : (g : Grid) (row : ℕ) (f : ℕ → Cell) (r c : ℕ) → 1 ≤ r → r ≤ g.size.rows → 1 ≤ c → c ≤ g.width
    → r ≢ row → cell_at (with_row g row f) r c ≡ cell_at g r c
cell_at-other_row g row f r c r1 r24 c1 cw other =
    cell_at-grid_of _ g.size g.width (λ r c. if r == row then f c else cell_at g r c) r c r1 r24 c1 cw
    ∙ elim (eqb_tells r row) [ inl e ↦ absurd (other e.1) | inr e ↦ rw e.0 refl ]

-- ---- runs

pub run-none : (g : Grid) (row col : ℕ) (like : Cell) → IsGrid g → put_run g row col [] like ≡ g
run-none g row col like is_grid =
    grid_of-same g.size g.width _ (cell_at g) (λ r c r1 r24 c1 cw. elim (eqb_tells r row) [
      | inl e ↦ elim (among-before col (col + length {A = ℕ} []) c) [
        | inl t ↦ absurd (omega (arith, t))
        | inr t ↦ rw (e.0, e.1, t.0) refl
      ]
      | inr e ↦ rw e.0 refl
    ])
    ∙ grid_of-cell_at _ g is_grid.cells

pub run-one : (g : Grid) (row col code : ℕ) (like : Cell)
    → put_run g row col (code ∷ []) like ≡ put g row col (cell_like like code)
run-one g row col code like =
    grid_of-same g.size g.width _ _ (λ r c r1 r24 c1 cw. elim (eqb_tells r row) [
      | inl e ↦ elim (among-before col (col + length (code ∷ [])) c) [
        | inl t ↦ elim (eqb_tells c col) [
          | inl f ↦
              let place : c - col ≡ 0 = omega arith in
              rw (e.0, t.0, f.0, place) refl
          | inr f ↦ absurd (f.1 (omega (arith, t)))
        ]
        | inr t ↦ elim (eqb_tells c col) [
          | inl f ↦ absurd (elim t.1 [ inl l ↦ omega arith | inr l ↦ omega arith ])
          | inr f ↦ rw (e.0, t.0, f.0) refl
        ]
      ]
      | inr e ↦ rw e.0 refl
    ])

-- the cell of a column of a run
run-cell : (old : Cell) (col : ℕ) (a b : List ℕ) (like : Cell) (c : ℕ)
    → (if leb col c && ltb c (col + length (a ++ b)) then cell_like like (get_or (a ++ b) (c - col) 0) else old)
    ≡ (if leb (col + length a) c && ltb c (col + length a + length b) then cell_like like
    (get_or b (c - (col + length a)) 0)
    else (if leb col c && ltb c (col + length a) then cell_like like (get_or a (c - col) 0) else old))
run-cell old col a b like c =
    let long = length-append a b in
    elim (among-before col (col + length a) c) [
      | inl t ↦ elim (among-before (col + length a) (col + length a + length b) c) [
        | inl u ↦ absurd (omega (arith, t, u))
        | inr u ↦ elim (among-before col (col + length (a ++ b)) c) [
          | inl v ↦ rw (t.0, u.0, v.0) (ap (cell_like like) (get_or-append a b 0 (c - col) (omega (arith, t))))
          | inr v ↦ absurd (elim v.1 [ inl l ↦ omega (arith, t) | inr l ↦ omega (arith, t) ])
        ]
      ]
      | inr t ↦ elim (among-before (col + length a) (col + length a + length b) c) [
        | inl u ↦ elim (among-before col (col + length (a ++ b)) c) [
          | inl v ↦
              let place : c - col - length a ≡ c - (col + length a) = omega arith in
              rw (t.0, u.0, v.0) (ap (cell_like like) (get_or-append_right a b (length a) (c - col) 0 refl
              (omega (arith, u)) ∙ ap (λ x. get_or b x 0) place))
          | inr v ↦ absurd (elim v.1 [ inl l ↦ omega (arith, u) | inr l ↦ omega (arith, u) ])
        ]
        | inr u ↦ elim (among-before col (col + length (a ++ b)) c) [
          | inl v ↦ absurd (elim t.1 [
            | inl l ↦ omega (arith, v)
            | inr l ↦
                elim u.1 [ inl m ↦ omega (arith, v) | inr m ↦ omega (arith, v) ]
          ])
          | inr v ↦ rw (t.0, u.0, v.0) refl
        ]
      ]
    ]

pub run-append : (g : Grid) (row col : ℕ) (a b : List ℕ) (like : Cell)
    → put_run g row col (a ++ b) like ≡ put_run (put_run g row col a like) row (col + length a) b like
run-append g row col a b like =
    let first : ℕ → Cell = λ c. if leb col c && ltb c (col + length a) then cell_like like (get_or a (c - col) 0) else
    cell_at g row c in
    grid_of-same g.size g.width _ _ (λ r c r1 r24 c1 cw. elim (eqb_tells r row) [
      | inl e ↦ rw e.0 (run-cell (cell_at g row c) col a b like c
          ∙ ap (λ x. if leb (col + length a) c && ltb c (col + length a + length b) then cell_like like
          (get_or b (c - (col + length a)) 0) else x)
          (sym (cell_at-with_row g row first c (omega (arith, e)) (omega (arith, e)) c1 cw)))
      | inr e ↦ rw e.0 (sym (cell_at-other_row g row first r c r1 r24 c1 cw e.1))
    ])

-- ---- tests

pub test-at : {C : Type 0} (z : C) (test : C → Bool) (g : GridOf C) (r c : ℕ) → IsTrue (test z) → AllCells test g
    → IsTrue (test (at_or z g r c))
unfolding at_or
test-at {C = C} z test g r c on_blank all = elim (cases_lt ((r - 1) * g.width + (c - 1)) (length g.cells)) [
  | inl l ↦ All-get_or (λ cell. IsTrue (test cell)) g.cells ((r - 1) * g.width + (c - 1)) z l all
  | inr l ↦ rw (get_or_past g.cells ((r - 1) * g.width + (c - 1)) z l) on_blank
]

pub test-formula : {C : Type 0} (test : C → Bool) (s : Size) (w : ℕ) (f : ℕ → ℕ → C)
    → ((r c : ℕ) → 1 ≤ r → r ≤ s.rows → 1 ≤ c → c ≤ w → IsTrue (test (f r c))) → AllCells test (grid_of s w f)
unfolding cells_of
test-formula {C = C} test s w f each = λ k d within.
    let F : ℕ → C = λ k. f (k / w + 1) (k % w + 1) in
    let low : k < s.rows * w = omega (arith, length-map-range_with_len F 0 (s.rows * w)) in
    let wide : 0 < w = columns-any s.rows w k low in
    let row : k / w < s.rows = (div-lt_iff_lt-mul wide).1 low in
    let col : k % w < w = mod-lt k wide in
    rw (get_or-map-range_with_len F 0 (s.rows * w) k k d low (omega arith))
    (each (k / w + 1) (k % w + 1) (omega arith) (omega arith) (omega arith) (omega arith))
