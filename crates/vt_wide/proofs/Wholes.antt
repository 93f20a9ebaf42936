-- Each edit keeps wide characters whole.
use Rattle.std.proofs.Common.{◌≡◌, ◌≢◌, ◌⊎◌, inl, inr, ℕ, ◌+◌, ◌-◌, ◌≤◌, ◌<◌, Bool, true, false, ◌&&◌, ◌||◌, ◌==◌, List, length, All, subst, if◌then◌else◌, min, max, arith, refl, sym, ap, ◌∙◌}
use Rattle.std.specs.Prelude.{nat_le, nat_lt, slice_index}
use Rattle.std.proofs.lemmas.Bool.Decides.{nat_tests, eqb_tells, leb_tells}
use Rattle.vt_screen.specs.declared.size.Size.{Size}
use Rattle.vt_screen.specs.Kinds.{CellsOf, erased_any}
use Rattle.vt_screen.specs.Grid.{GridOf, grid_of, at_or, is_within, changed_any, columns_of, span_of, row_any, put_any, scroll_up_any, scroll_down_any}
use Rattle.vt_screen.specs.Between.{given_any, from_left_any, from_right_any}
use Rattle.vt_screen.proofs.Places.{cell_at-grid_of, grid_of-same}
use Rattle.vt_wide.proofs.Parting.{row_put}
use Rattle.vt_screen.proofs.Maps.{among}
use Rattle.vt_wide.specs.Kinds.{WideOf, IsLetter, IsNarrow, AreHalves, KeepsWhole}
use Rattle.vt_wide.specs.Edits.{is_parted, parted, parted_row, parted_twice, parted_thrice, first_column, erased, erased_span, inserted, deleted}
use Rattle.vt_wide.specs.Edits.{moved_up, moved_down, parted_between, columns, written, written_inserting, run_any, written_bytes, joined_column, joined}
use Rattle.vt_wide.specs.Whole.{beside, Fit, IsWhole, AreIn}
use Rattle.vt_wide.proofs.Lines.{Line, Settled, apart, fit_of, parted_line, changed_line, spliced, spliced_line, constant_line, inserted_line, deleted_line, joined_line}

-- a change that leaves no half
pub keeps_always : {C : Type 0} (k : WideOf C) (change : C → C) → ((cell : C) → IsNarrow k (change cell)) → KeepsWhole k change
keeps_always k change narrow = record {
  no_first = λ cell is. (narrow cell).wide;
  no_second = λ cell is. (narrow cell).second;
  wide = λ cell is. inr (narrow cell, narrow (k.second cell));
}

pub keeps_const : {C : Type 0} (k : WideOf C) (e : C) → IsNarrow k e → KeepsWhole k (λ cell. e)
keeps_const k e narrow = keeps_always k (λ cell. e) (λ cell. narrow)

pub keeps_erased : {C : Type 0} (k : WideOf C) (cells : CellsOf C) → KeepsWhole k cells.selectively_erased → (selective : Bool) (e : C) → IsNarrow k e
    → KeepsWhole k (erased_any cells selective e)
keeps_erased k cells keeps true e narrow = keeps
keeps_erased k cells keeps false e narrow = keeps_const k e narrow

-- ---- a cell of a grid that a formula gives

pub made_at : {C : Type 0} (z : C) (s : Size) (w : ℕ) (f : ℕ → ℕ → C) (r c : ℕ) → 1 ≤ r → r ≤ s.rows
    → beside z (grid_of s w f) r c ≡ (if is_within 1 w c then f r c else z)
made_at z s w f r c r1 rh = elim (among 1 w c) [
  | inl t ↦ rw t.0 (cell_at-grid_of z s w f r c r1 rh t.1 t.2)
  | inr t ↦ rw t.0 refl
]

-- one cell everywhere
pub filled_whole : {C : Type 0} (k : WideOf C) (z : C) (s : Size) (w : ℕ) (e : C) → IsNarrow k z → IsNarrow k e → IsWhole k z (grid_of s w (λ r c. e))
filled_whole {C = C} k z s w e nz narrow = record {
  fit = λ r c r1 rh cw. fit_of (made_at z s w (λ r c. e) r c r1 rh) (made_at z s w (λ r c. e) r (c + 1) r1 rh)
      (apart (first (is_within 1 w c)) (second (is_within 1 w (c + 1))));
}
  where
    first : (x : Bool) → k.is_wide (if x then e else z) ≡ false
    first true = narrow.wide
    first false = nz.wide

    second : (x : Bool) → k.is_second (if x then e else z) ≡ false
    second true = narrow.second
    second false = nz.second

-- ---- parting

-- which cells are changed
abbrev at_edge : {C : Type 0} → WideOf C → C → GridOf C → (ℕ → Bool) → ℕ → ℕ → ℕ → Bool
at_edge k z g rows col r c = (rows r && is_parted k z g r col) && is_within (col - 1) col c

pub parted_at : {C : Type 0} (k : WideOf C) (z : C) (change : C → C) (g : GridOf C) (rows : ℕ → Bool) (col r c : ℕ) → 1 ≤ r → r ≤ g.size.rows
    → beside z (parted k z change g rows col) r c ≡ (if at_edge k z g rows col r c then change (beside z g r c) else beside z g r c)
unfolding parted
parted_at k z change g rows col r c r1 rh =
    made_at z g.size g.width (λ r c. if at_edge k z g rows col r c then change (at_or z g r c) else at_or z g r c) r c r1 rh
    ∙ elim (among 1 g.width c) [
      | inl t ↦ rw t.0 refl
      | inr t ↦
          let out : at_edge k z g rows col r c ≡ false = grind (arith, nat_tests, t.1) in
          rw (t.0, out) refl
    ]

pub parted_whole : {C : Type 0} (k : WideOf C) (z : C) (change : C → C) (g : GridOf C) (rows : ℕ → Bool) (col : ℕ) → AreHalves k → KeepsWhole k change
    → IsWhole k z g → IsWhole k z (parted k z change g rows col)
unfolding parted
parted_whole {C = C} k z change g rows col halves keeps whole = record { fit = λ r c r1 rh cw. go r c r1 rh cw (rows r && is_parted k z g r col) refl }
  where
    go : (r c : ℕ) → 1 ≤ r → r ≤ g.size.rows → c ≤ g.width → (x : Bool) → (rows r && is_parted k z g r col) ≡ x
        → Fit k (beside z (parted k z change g rows col) r c) (beside z (parted k z change g rows col) r (c + 1))
    go r c r1 rh cw false is = fit_of (parted_at k z change g rows col r c r1 rh ∙ rw is refl) (parted_at k z change g rows col r (c + 1) r1 rh ∙ rw is refl)
        (whole.fit r c r1 rh cw)
    go r c r1 rh cw true is =
        let p = col - 1 in
        let low : 2 ≤ col = grind (arith, nat_tests, is) in
        let high : col ≤ g.width = grind (arith, nat_tests, is) in
        let second : k.is_second (at_or z g r col) ≡ true = grind (arith, nat_tests, is) in
        let same : col ≡ p + 1 = omega (arith, low) in
        let there : k.is_second (beside z g r (p + 1)) ≡ true = ap (λ x. k.is_second (beside z g r x)) (sym same) ∙ grind (arith, nat_tests, low, high, second) in
        parted_line k change (beside z g r) (beside z (parted k z change g rows col) r) g.width p halves keeps (λ c cw. whole.fit r c r1 rh cw) (omega (arith, low, high)) there
        (parted_at k z change g rows col r p r1 rh ∙ rw is (grind (arith, nat_tests, low)))
        (parted_at k z change g rows col r (p + 1) r1 rh ∙ rw is (grind (arith, nat_tests, low)))
        (λ c a b. parted_at k z change g rows col r c r1 rh ∙ rw is (grind (arith, nat_tests, low, a, b))) c cw

-- after parting, the cells at the edge are of no wide character, or of one that stays
first_second : {C : Type 0} (k : WideOf C) (z : C) (g : GridOf C) (r : ℕ) → IsNarrow k z → IsWhole k z g → 1 ≤ r → r ≤ g.size.rows
    → k.is_second (beside z g r (0 + 1)) ≡ false
first_second k z g r nz whole r1 rh = sym (whole.fit r 0 r1 rh (omega arith)).wide ∙ nz.wide

past_second : {C : Type 0} (k : WideOf C) (z : C) (g : GridOf C) (r c : ℕ) → IsNarrow k z → g.width < c → k.is_second (beside z g r c) ≡ false
past_second k z g r c nz past = ap k.is_second (is c) ∙ nz.second
  where
    is : (d : ℕ) → beside z g r c ≡ z
    is d = grind (arith, nat_tests, past)

settled_after : {C : Type 0} (k : WideOf C) (z : C) (change : C → C) (g : GridOf C) (rows : ℕ → Bool) (r p col : ℕ) → AreHalves k → IsNarrow k z
    → KeepsWhole k change → IsWhole k z g → 1 ≤ r → r ≤ g.size.rows → rows r ≡ true → p + 1 ≡ col
    → Settled k change (beside z (parted k z change g rows col) r p) (beside z (parted k z change g rows col) r (p + 1))
unfolding parted
settled_after {C = C} k z change g rows r p col halves nz keeps whole r1 rh on same = go (is_parted k z g r col) refl
  where
    at : (c : ℕ) → beside z (parted k z change g rows col) r c ≡ (if at_edge k z g rows col r c then change (beside z g r c) else beside z g r c)
    at c = parted_at k z change g rows col r c r1 rh

    go : (x : Bool) → is_parted k z g r col ≡ x
        → Settled k change (beside z (parted k z change g rows col) r p) (beside z (parted k z change g rows col) r (p + 1))
    go true is =
        let low : 2 ≤ col = grind (arith, nat_tests, is) in
        let high : col ≤ g.width = grind (arith, nat_tests, is) in
        let second : k.is_second (at_or z g r col) ≡ true = grind (arith, nat_tests, is) in
        let there : k.is_second (beside z g r (p + 1)) ≡ true = ap (λ x. k.is_second (beside z g r x)) same ∙ grind (arith, nat_tests, low, high, second) in
        let fit = whole.fit r p r1 rh (omega (arith, same, high)) in
        let wide : k.is_wide (beside z g r p) ≡ true = fit.wide ∙ there in
        let this : beside z (parted k z change g rows col) r p ≡ change (beside z g r p) = at p ∙ rw (on, is) (grind (arith, nat_tests, low, same)) in
        let next : beside z (parted k z change g rows col) r (p + 1) ≡ change (beside z g r (p + 1)) =
        at (p + 1) ∙ rw (on, is) (grind (arith, nat_tests, low, same)) in
        elim (keeps.wide (beside z g r p) wide) [
          | inl s ↦ inr (
            ap change (this ∙ s.0) ∙ sym this,
            ap change (next ∙ ap change (fit.second wide) ∙ s.1 ∙ sym (fit.second wide)) ∙ sym next,
          )
          | inr s ↦ inl (ap k.is_second (next ∙ ap change (fit.second wide)) ∙ s.1.second)
        ]
    go false is =
        let this : beside z (parted k z change g rows col) r (p + 1) ≡ beside z g r (p + 1) = at (p + 1) ∙ rw (on, is) refl in
        inl (ap k.is_second this ∙ elim (leb_tells (p + 1) g.width) [
          | inr f ↦ past_second k z g r (p + 1) nz f.1
          | inl f ↦ elim (leb_tells 2 (p + 1)) [
            | inl d ↦
                let second : k.is_second (at_or z g r col) ≡ false = grind (arith, nat_tests, is, same, f.1, d.1) in
                ap (λ x. k.is_second (beside z g r x)) same ∙ grind (arith, nat_tests, same, f.1, second)
            | inr d ↦
                let zero : p ≡ 0 = omega (arith, d) in
                ap (λ x. k.is_second (beside z g r (x + 1))) zero ∙ first_second k z g r nz whole r1 rh
          ]
        ])

settled_step : {C : Type 0} (k : WideOf C) (change : C → C) (a b : C) → KeepsWhole k change → (x y : Bool) → Settled k change a b
    → Settled k change (if x then change a else a) (if y then change b else b)
settled_step {C = C} k change a b keeps x y settled = elim settled [
  | inl s ↦ inl (second y s)
  | inr s ↦ inr (stays a s.0 x, stays b s.1 y)
]
  where
    second : (y : Bool) → k.is_second b ≡ false → k.is_second (if y then change b else b) ≡ false
    second true s = keeps.no_second b s
    second false s = s

    stays : (a : C) → change a ≡ a → (x : Bool) → change (if x then change a else a) ≡ (if x then change a else a)
    stays a s true = ap change s
    stays a s false = s

settled_of : {C : Type 0} (k : WideOf C) (change : C → C) {a b x y : C} → a ≡ x → b ≡ y → Settled k change x y → Settled k change a b
settled_of k change p q s = rw (p, q) s

-- another parting keeps that
settled_kept : {C : Type 0} (k : WideOf C) (z : C) (change : C → C) (g : GridOf C) (rows : ℕ → Bool) (r p col : ℕ)
    → KeepsWhole k change → 1 ≤ r → r ≤ g.size.rows → Settled k change (beside z g r p) (beside z g r (p + 1))
    → Settled k change (beside z (parted k z change g rows col) r p) (beside z (parted k z change g rows col) r (p + 1))
settled_kept k z change g rows r p col keeps r1 rh settled =
    settled_of k change (parted_at k z change g rows col r p r1 rh) (parted_at k z change g rows col r (p + 1) r1 rh)
    (settled_step k change (beside z g r p) (beside z g r (p + 1)) keeps (at_edge k z g rows col r p) (at_edge k z g rows col r (p + 1)) settled)

-- if a change leaves no half, the edge parts nothing any more
open_of : {C : Type 0} (k : WideOf C) (change : C → C) (a b : C) → ((cell : C) → IsNarrow k (change cell)) → Settled k change a b → k.is_second b ≡ false
open_of k change a b narrow settled = elim settled [ inl s ↦ s | inr s ↦ ap k.is_second (sym s.1) ∙ (narrow b).second ]

-- ---- an area is changed

changed_at : {C : Type 0} (z : C) (change : C → C) (g : GridOf C) (A : ℕ → ℕ → Bool) (r c : ℕ) → 1 ≤ r → r ≤ g.size.rows
    → beside z (changed_any z change g A) r c ≡ (if is_within 1 g.width c && A r c then change (beside z g r c) else beside z g r c)
changed_at z change g A r c r1 rh = made_at z g.size g.width (λ r c. if A r c then change (at_or z g r c) else at_or z g r c) r c r1 rh
    ∙ elim (among 1 g.width c) [ inl t ↦ rw t.0 refl | inr t ↦ rw t.0 refl ]

changed_whole : {C : Type 0} (k : WideOf C) (z : C) (change : C → C) (g : GridOf C) (A : ℕ → ℕ → Bool) → AreHalves k → KeepsWhole k change → IsWhole k z g
    → ((r c : ℕ) → 1 ≤ r → r ≤ g.size.rows → c ≤ g.width
    → ((is_within 1 g.width c && A r c) ≡ (is_within 1 g.width (c + 1) && A r (c + 1))) ⊎ Settled k change (beside z g r c) (beside z g r (c + 1)))
    → IsWhole k z (changed_any z change g A)
changed_whole k z change g A halves keeps whole settled = record {
  fit = λ r c r1 rh cw.
      changed_line k change (beside z g r) (beside z (changed_any z change g A) r) g.width (λ c. is_within 1 g.width c && A r c) halves keeps
      (λ c cw. whole.fit r c r1 rh cw)
      (λ c is. changed_at z change g A r c r1 rh ∙ rw is refl) (λ c is. changed_at z change g A r c r1 rh ∙ rw is refl)
      (λ c cw. settled r c r1 rh cw) c cw;
}

pub erased_whole : {C : Type 0} (k : WideOf C) (z : C) (change : C → C) (g : GridOf C) (row from to : ℕ) → AreHalves k → IsNarrow k z → KeepsWhole k change
    → AreIn g row from to → IsWhole k z g → IsWhole k z (erased k z change g row from to)
unfolding parted
erased_whole {C = C} k z change g row from to halves nz keeps place whole =
    let P = parted_row k z change g row from in
    let Q = parted_row k z change P row (to + 1) in
    let P_whole = parted_whole k z change g (λ r. r == row) from halves keeps whole in
    let Q_whole = parted_whole k z change P (λ r. r == row) (to + 1) halves keeps P_whole in
    changed_whole k z change Q (columns_of row from to) halves keeps Q_whole (λ r c r1 rh cw. elim (eqb_tells r row) [
      | inl e ↦ elim (eqb_tells (c + 1) from) [
        | inl f ↦ inr (settled_kept k z change P (λ r. r == row) r c (to + 1) keeps r1 rh
            (settled_after k z change g (λ r. r == row) r c from halves nz keeps whole r1 rh e.0 f.1))
        | inr f ↦ elim (eqb_tells c to) [
          | inl d ↦ inr (settled_after k z change P (λ r. r == row) r c (to + 1) halves nz keeps P_whole r1 rh e.0 (omega (arith, d.1)))
          | inr d ↦ inl (grind (arith, nat_tests, e.1, f.1, d.1, place.some, cw))
        ]
      ]
      | inr e ↦ inl (grind (arith, nat_tests, e.1))
    ])

pub erased_span_whole : {C : Type 0} (k : WideOf C) (z : C) (change : C → C) (g : GridOf C) (row col to_row to_col : ℕ) → AreHalves k → IsNarrow k z
    → KeepsWhole k change → 1 ≤ col → 1 ≤ to_col → IsWhole k z g → IsWhole k z (erased_span k z change g row col to_row to_col)
unfolding parted
erased_span_whole {C = C} k z change g row col to_row to_col halves nz keeps col1 to_col1 whole =
    let P = parted_row k z change g row col in
    let Q = parted_row k z change P to_row (to_col + 1) in
    let P_whole = parted_whole k z change g (λ r. r == row) col halves keeps whole in
    let Q_whole = parted_whole k z change P (λ r. r == to_row) (to_col + 1) halves keeps P_whole in
    changed_whole k z change Q (span_of row col to_row to_col) halves keeps Q_whole (λ r c r1 rh cw. elim (eqb_tells c 0) [
      | inl a ↦ inr (inl (ap (λ x. k.is_second (beside z Q r (x + 1))) a.1 ∙ first_second k z Q r nz Q_whole r1 rh))
      | inr a ↦ elim (leb_tells (c + 1) g.width) [
        | inr b ↦ inr (inl (past_second k z Q r (c + 1) nz b.1))
        | inl b ↦ elim (begins r c) [
          | inl e ↦ inr (settled_kept k z change P (λ r. r == to_row) r c (to_col + 1) keeps r1 rh
              (settled_after k z change g (λ r. r == row) r c col halves nz keeps whole r1 rh e.0 e.1))
          | inr e ↦ elim (begins_2 r c) [
            | inl f ↦ inr (settled_after k z change P (λ r. r == to_row) r c (to_col + 1) halves nz keeps P_whole r1 rh f.0 (omega (arith, f.1)))
            | inr f ↦ inl (grind (arith, nat_tests, a.1, b.1, e, f))
          ]
        ]
      ]
    ])
  where
    begins : (r c : ℕ) → ((r == row ≡ true) × (c + 1 ≡ col)) ⊎ (r ≡ row → c + 1 ≢ col)
    begins r c = elim (eqb_tells r row) [
      | inl e ↦ elim (eqb_tells (c + 1) col) [ inl f ↦ inl (e.0, f.1) | inr f ↦ inr (λ h. f.1) ]
      | inr e ↦ inr (λ h. absurd (e.1 h))
    ]

    begins_2 : (r c : ℕ) → ((r == to_row ≡ true) × (c ≡ to_col)) ⊎ (r ≡ to_row → c ≢ to_col)
    begins_2 r c = elim (eqb_tells r to_row) [
      | inl e ↦ elim (eqb_tells c to_col) [ inl f ↦ inl (e.0, f.1) | inr f ↦ inr (λ h. f.1) ]
      | inr e ↦ inr (λ h. absurd (e.1 h))
    ]

-- ---- one row

-- the cells of one row are given, and the others stay
given_row_whole : {C : Type 0} (k : WideOf C) (z : C) (g : GridOf C) (row : ℕ) (f : ℕ → ℕ → C) → IsWhole k z g
    → ((r c : ℕ) → r ≢ row → f r c ≡ at_or z g r c) → (1 ≤ row → row ≤ g.size.rows → Line k g.width (beside z (grid_of g.size g.width f) row))
    → IsWhole k z (grid_of g.size g.width f)
given_row_whole {C = C} k z g row f whole others line = record {
  fit = λ r c r1 rh cw. elim (eqb_tells r row) [
    | inl e ↦ rw e.1 (line (omega (arith, r1, e.1)) (omega (arith, rh, e.1)) c cw)
    | inr e ↦ fit_of (other r c r1 rh e.1) (other r (c + 1) r1 rh e.1) (whole.fit r c r1 rh cw)
  ];
}
  where
    other : (r c : ℕ) → 1 ≤ r → r ≤ g.size.rows → r ≢ row → beside z (grid_of g.size g.width f) r c ≡ beside z g r c
    other r c r1 rh e = made_at z g.size g.width f r c r1 rh ∙ ap (λ x. if is_within 1 g.width c then x else z) (others r c e)

-- in some columns of a row the cells that a formula gives
in_columns : {C : Type 0} (z : C) (g : GridOf C) (row from to : ℕ) (f : ℕ → ℕ → C) (c : ℕ) → AreIn g row from to → from ≤ c → c ≤ to
    → beside z (given_any z g (columns_of row from to) f) row c ≡ f row c
in_columns z g row from to f c place low high =
    let inside : is_within 1 g.width c ≡ true = grind (arith, nat_tests, place.some, low, high) in
    let there : columns_of row from to row c ≡ true = grind (arith, nat_tests, low, high) in
    made_at z g.size g.width (λ r c. if columns_of row from to r c then f r c else at_or z g r c) row c place.inside.0 place.inside.1
    ∙ rw (inside, there) refl

out_of_columns : {C : Type 0} (z : C) (g : GridOf C) (row from to : ℕ) (f : ℕ → ℕ → C) (c : ℕ) → AreIn g row from to → (c < from) ⊎ (to < c)
    → beside z (given_any z g (columns_of row from to) f) row c ≡ beside z g row c
out_of_columns z g row from to f c place out =
    let there : columns_of row from to row c ≡ false = elim out [ inl l ↦ grind (arith, nat_tests, l) | inr l ↦ grind (arith, nat_tests, l) ] in
    made_at z g.size g.width (λ r c. if columns_of row from to r c then f r c else at_or z g r c) row c place.inside.0 place.inside.1
    ∙ rw there refl

pub beside_in : {C : Type 0} (z : C) (g : GridOf C) (r c : ℕ) → 1 ≤ c → c ≤ g.width → beside z g r c ≡ at_or z g r c
beside_in z g r c c1 cw =
    let inside : is_within 1 g.width c ≡ true = grind (arith, nat_tests, c1, cw) in
    rw inside refl

-- the edges of three columns are open after they parted
record Opened {C : Type 0} (k : WideOf C) (z : C) (g : GridOf C) (row a b c : ℕ) : Type 0 where
  whole : IsWhole k z g
  first : k.is_second (beside z g row a) ≡ false
  other : k.is_second (beside z g row b) ≡ false
  last : k.is_second (beside z g row c) ≡ false

-- one edge, and then one more, and then another
open_after : {C : Type 0} (k : WideOf C) (z : C) (change : C → C) (g : GridOf C) (rows : ℕ → Bool) (r col : ℕ) → AreHalves k → IsNarrow k z
    → ((cell : C) → IsNarrow k (change cell)) → IsWhole k z g → 1 ≤ r → r ≤ g.size.rows → rows r ≡ true → 1 ≤ col
    → k.is_second (beside z (parted k z change g rows col) r col) ≡ false
unfolding parted
open_after k z change g rows r col halves nz narrow whole r1 rh on col1 =
    let p = col - 1 in
    let same : p + 1 ≡ col = omega (arith, col1) in
    ap (λ x. k.is_second (beside z (parted k z change g rows col) r x)) (sym same)
    ∙ open_of k change _ _ narrow (settled_after k z change g rows r p col halves nz (keeps_always k change narrow) whole r1 rh on same)

open_kept : {C : Type 0} (k : WideOf C) (z : C) (change : C → C) (g : GridOf C) (rows : ℕ → Bool) (r at col : ℕ) → ((cell : C) → IsNarrow k (change cell))
    → 1 ≤ r → r ≤ g.size.rows → k.is_second (beside z g r at) ≡ false → k.is_second (beside z (parted k z change g rows col) r at) ≡ false
open_kept {C = C} k z change g rows r at col narrow r1 rh is = ap k.is_second (parted_at k z change g rows col r at r1 rh) ∙ go (at_edge k z g rows col r at)
  where
    go : (x : Bool) → k.is_second (if x then change (beside z g r at) else beside z g r at) ≡ false
    go true = (narrow _).second
    go false = is

opened : {C : Type 0} (k : WideOf C) (z e : C) (g : GridOf C) (row a b c : ℕ) → AreHalves k → IsNarrow k z → IsNarrow k e → IsWhole k z g
    → 1 ≤ row → row ≤ g.size.rows → 1 ≤ a → 1 ≤ b → 1 ≤ c → Opened k z (parted_thrice k z (λ cell. e) g row a b c) row a b c
unfolding parted
opened {C = C} k z e g row a b c halves nz narrow whole r1 rh a1 b1 c1 =
    let const : C → C = λ cell. e in
    let always : (cell : C) → IsNarrow k (const cell) = λ cell. narrow in
    let keeps = keeps_always k const always in
    let this : ℕ → Bool = λ r. r == row in
    let on : this row ≡ true = grind (arith, nat_tests) in
    let P = parted k z const g this a in
    let Q = parted k z const P this b in
    let P_whole = parted_whole k z const g this a halves keeps whole in
    let Q_whole = parted_whole k z const P this b halves keeps P_whole in
    record {
      whole = parted_whole k z const Q this c halves keeps Q_whole;
      first = open_kept k z const Q this row a c always r1 rh (open_kept k z const P this row a b always r1 rh
          (open_after k z const g this row a halves nz always whole r1 rh on a1));
      other = open_kept k z const Q this row b c always r1 rh (open_after k z const P this row b halves nz always P_whole r1 rh on b1);
      last = open_after k z const Q this row c halves nz always Q_whole r1 rh on c1;
    }

pub inserted_whole : {C : Type 0} (k : WideOf C) (z e : C) (g : GridOf C) (row col right n : ℕ) → AreHalves k → IsNarrow k z → IsNarrow k e
    → AreIn g row col right → IsWhole k z g → IsWhole k z (inserted k z e g row col right n)
unfolding parted
inserted_whole {C = C} k z e g row col right n halves nz narrow place whole =
    let m = max col (right + 1 - n) in
    let G = parted_thrice k z (λ cell. e) g row col m (right + 1) in
    let o = opened k z e g row col m (right + 1) halves nz narrow whole place.inside.0 place.inside.1 place.some.0 (omega (arith, place.some.0)) (omega arith) in
    let f : ℕ → ℕ → C = from_left_any z e G col n in
    let on : AreIn G row col right = record { inside = place.inside; some = place.some } in
    given_row_whole k z G row _ o.whole (λ r c other. elim (eqb_tells r row) [ inl e ↦ absurd (other e.1) | inr e ↦ rw e.0 refl ]) (λ r1 rh.
    inserted_line k (beside z G row) (beside z (given_any z G (columns_of row col right) f) row) e g.width col right n narrow
    (λ c cw. o.whole.fit row c r1 rh cw) (omega (arith, place.some)) (omega (arith, place.some))
    (λ c low. out_of_columns z G row col right f c on (inl low))
    (λ c low high most. in_columns z G row col right f c on low most ∙ grind (arith, nat_tests, high))
    (λ c d low most back.
    let from : c - n ≡ d = omega (arith, back) in
    let test : nat_le (col + n) c ≡ true = grind (arith, nat_tests, low) in
    in_columns z G row col right f c on (omega (arith, low)) most ∙ rw (test, from)
    (sym (beside_in z G row d (omega (arith, low, back, place.some)) (omega (arith, most, back, place.some)))))
    (λ c low. out_of_columns z G row col right f c on (inr low))
    o.first
    (λ d is low.
    let there : d + 1 ≡ m = omega (arith, is, low) in
    ap (λ x. k.is_second (beside z G row x)) there ∙ o.other)
    o.last)

pub deleted_whole : {C : Type 0} (k : WideOf C) (z e : C) (g : GridOf C) (row col right n : ℕ) → AreHalves k → IsNarrow k z → IsNarrow k e
    → AreIn g row col right → IsWhole k z g → IsWhole k z (deleted k z e g row col right n)
unfolding parted
deleted_whole {C = C} k z e g row col right n halves nz narrow place whole =
    let m = min (col + n) (right + 1) in
    let G = parted_thrice k z (λ cell. e) g row col m (right + 1) in
    let o = opened k z e g row col m (right + 1) halves nz narrow whole place.inside.0 place.inside.1 place.some.0 (omega (arith, place.some.0)) (omega arith) in
    let f : ℕ → ℕ → C = from_right_any z e G right n in
    let on : AreIn G row col right = record { inside = place.inside; some = place.some } in
    given_row_whole k z G row _ o.whole (λ r c other. elim (eqb_tells r row) [ inl e ↦ absurd (other e.1) | inr e ↦ rw e.0 refl ]) (λ r1 rh.
    deleted_line k (beside z G row) (beside z (given_any z G (columns_of row col right) f) row) e g.width col right n narrow
    (λ c cw. o.whole.fit row c r1 rh cw) (omega (arith, place.some)) (omega (arith, place.some))
    (λ c low. out_of_columns z G row col right f c on (inl low))
    (λ c low most.
    let test : nat_le (c + n) right ≡ true = grind (arith, nat_tests, most) in
    in_columns z G row col right f c on low (omega (arith, most)) ∙ rw test
    (sym (beside_in z G row (c + n) (omega (arith, low, place.some)) (omega (arith, most, place.some)))))
    (λ c low past most. in_columns z G row col right f c on low most ∙ grind (arith, nat_tests, past))
    (λ c low. out_of_columns z G row col right f c on (inr low))
    o.first
    (λ most.
    let there : col + n ≡ m = omega (arith, most) in
    ap (λ x. k.is_second (beside z G row x)) there ∙ o.other)
    o.last)

-- ---- rows

chosen_line : {C : Type 0} (k : WideOf C) (w : ℕ) (A : ℕ → C) (e : C) → IsNarrow k e → (x : Bool) → (x ≡ true → Line k w A) → Line k w (λ c. if x then A c else e)
chosen_line k w A e narrow true line = line refl
chosen_line k w A e narrow false line = constant_line k w e narrow

chosen_open : {C : Type 0} (k : WideOf C) (a e : C) → IsNarrow k e → (x : Bool) → (x ≡ true → k.is_second a ≡ false) → k.is_second (if x then a else e) ≡ false
chosen_open k a e narrow true is = is refl
chosen_open k a e narrow false is = narrow.second

-- in some rows the cells of other ones come in between two columns, or one cell
rows_moved : {C : Type 0} (k : WideOf C) (z e : C) (g : GridOf C) (rows x : ℕ → Bool) (source : ℕ → ℕ) (left right : ℕ) → IsNarrow k e → IsWhole k z g
    → 1 ≤ left → left ≤ right → right ≤ g.width
    → ((r : ℕ) → 1 ≤ r → r ≤ g.size.rows → rows r ≡ true → (k.is_second (beside z g r left) ≡ false) × (k.is_second (beside z g r (right + 1)) ≡ false))
    → ((r : ℕ) → rows r ≡ true → 1 ≤ r → r ≤ g.size.rows → x r ≡ true → (1 ≤ source r) × (source r ≤ g.size.rows) × (rows (source r) ≡ true))
    → IsWhole k z (grid_of g.size g.width (λ r c. if rows r && is_within left right c then (if x r then at_or z g (source r) c else e) else at_or z g r c))
rows_moved {C = C} k z e g rows x source left right narrow whole left1 some high edges from = record { fit = λ r c r1 rh cw. go r r1 rh (rows r) refl c cw }
  where
    f : ℕ → ℕ → C
    f r c = if rows r && is_within left right c then (if x r then at_or z g (source r) c else e) else at_or z g r c

    at : (r c : ℕ) → 1 ≤ r → r ≤ g.size.rows → beside z (grid_of g.size g.width f) r c ≡ (if is_within 1 g.width c then f r c else z)
    at r c r1 rh = made_at z g.size g.width f r c r1 rh

    go : (r : ℕ) → 1 ≤ r → r ≤ g.size.rows → (y : Bool) → rows r ≡ y → Line k g.width (beside z (grid_of g.size g.width f) r)
    go r r1 rh false is = λ c cw. fit_of (at r c r1 rh ∙ rw is refl) (at r (c + 1) r1 rh ∙ rw is refl) (whole.fit r c r1 rh cw)
    go r r1 rh true is =
        spliced_line k (beside z g r) (λ c. if x r then beside z g (source r) c else e) (beside z (grid_of g.size g.width f) r) g.width left (right + 1)
        (λ c cw. whole.fit r c r1 rh cw)
        (chosen_line k g.width (beside z g (source r)) e narrow (x r) (λ on c cw. whole.fit (source r) c (from r is r1 rh on).0 (from r is r1 rh on).1 cw))
        (omega (arith, some)) (omega (arith, high))
        (λ c low. at r c r1 rh ∙ rw is (grind (arith, nat_tests, low)))
        (λ c low past. at r c r1 rh ∙ rw is (grind (arith, nat_tests, low, past, left1, high)))
        (λ c low. at r c r1 rh ∙ rw is (grind (arith, nat_tests, low)))
        (edges r r1 rh is).0 (edges r r1 rh is).1
        (chosen_open k (beside z g (source r) left) e narrow (x r) (λ on. (edges (source r) (from r is r1 rh on).0 (from r is r1 rh on).1 (from r is r1 rh on).2).0))
        (chosen_open k (beside z g (source r) (right + 1)) e narrow (x r) (λ on. (edges (source r) (from r is r1 rh on).0 (from r is r1 rh on).1 (from r is r1 rh on).2).1))

-- the edges of margins are open
between_whole : {C : Type 0} (k : WideOf C) (z : C) (g : GridOf C) (top bottom left right : ℕ) → AreHalves k → IsWhole k z g
    → IsWhole k z (parted_between k z g top bottom left right)
unfolding parted
between_whole k z g top bottom left right halves whole =
    let keeps = keeps_always k k.spaced halves.spaced in
    parted_whole k z k.spaced (parted k z k.spaced g (is_within top bottom) left) (is_within top bottom) (right + 1) halves keeps
    (parted_whole k z k.spaced g (is_within top bottom) left halves keeps whole)

pub between_open : {C : Type 0} (k : WideOf C) (z : C) (g : GridOf C) (top bottom left right r : ℕ) → AreHalves k → IsNarrow k z → IsWhole k z g
    → 1 ≤ left → 1 ≤ r → r ≤ g.size.rows → is_within top bottom r ≡ true
    → (k.is_second (beside z (parted_between k z g top bottom left right) r left) ≡ false)
    × (k.is_second (beside z (parted_between k z g top bottom left right) r (right + 1)) ≡ false)
unfolding parted
between_open {C = C} k z g top bottom left right r halves nz whole left1 r1 rh on =
    let keeps = keeps_always k k.spaced halves.spaced in
    let rows : ℕ → Bool = is_within top bottom in
    let P = parted k z k.spaced g rows left in (
      open_kept k z k.spaced P rows r left (right + 1) halves.spaced r1 rh
          (open_after k z k.spaced g rows r left halves nz halves.spaced whole r1 rh on left1),
      open_after k z k.spaced P rows r (right + 1) halves nz halves.spaced (parted_whole k z k.spaced g rows left halves keeps whole) r1 rh on (omega arith),
    )

pub moved_up_whole : {C : Type 0} (k : WideOf C) (z e : C) (g : GridOf C) (top bottom left right n : ℕ) → AreHalves k → IsNarrow k z → IsNarrow k e
    → 1 ≤ left → left ≤ right → right ≤ g.width → bottom ≤ g.size.rows → IsWhole k z g → IsWhole k z (moved_up k z e g top bottom left right n)
unfolding parted
moved_up_whole k z e g top bottom left right n halves nz narrow left1 some high low whole =
    rows_moved k z e (parted_between k z g top bottom left right) (is_within top bottom) (λ r. nat_le (r + n) bottom) (λ r. r + n) left right narrow
    (between_whole k z g top bottom left right halves whole) left1 some high
    (λ r r1 rh on. between_open k z g top bottom left right r halves nz whole left1 r1 rh on)
    (λ r is r1 rh on. (omega arith, grind (arith, nat_tests, on, low), grind (arith, nat_tests, on, is)))

pub moved_down_whole : {C : Type 0} (k : WideOf C) (z e : C) (g : GridOf C) (top bottom left right n : ℕ) → AreHalves k → IsNarrow k z → IsNarrow k e
    → 1 ≤ left → left ≤ right → right ≤ g.width → 1 ≤ top → IsWhole k z g → IsWhole k z (moved_down k z e g top bottom left right n)
unfolding parted
moved_down_whole k z e g top bottom left right n halves nz narrow left1 some high low whole =
    rows_moved k z e (parted_between k z g top bottom left right) (is_within top bottom) (λ r. nat_le (top + n) r) (λ r. r - n) left right narrow
    (between_whole k z g top bottom left right halves whole) left1 some high
    (λ r r1 rh on. between_open k z g top bottom left right r halves nz whole left1 r1 rh on)
    (λ r is r1 rh on. (grind (arith, nat_tests, on, low), omega arith, grind (arith, nat_tests, on, is)))

-- whole rows move
rows_scrolled : {C : Type 0} (k : WideOf C) (z e : C) (g : GridOf C) (rows x : ℕ → Bool) (source : ℕ → ℕ) → IsNarrow k z → IsNarrow k e → IsWhole k z g → 1 ≤ g.width
    → ((r : ℕ) → rows r ≡ true → 1 ≤ r → r ≤ g.size.rows → x r ≡ true → (1 ≤ source r) × (source r ≤ g.size.rows) × (rows (source r) ≡ true))
    → IsWhole k z (grid_of g.size g.width (λ r c. if rows r then (if x r then at_or z g (source r) c else e) else at_or z g r c))
rows_scrolled {C = C} k z e g rows x source nz narrow whole some from = subst (IsWhole k z)
    (grid_of-same g.size g.width _ _ (λ r c r1 rh c1 cw. both (rows r) (is_within 1 g.width c) _ _ (grind (arith, nat_tests, c1, cw))))
    (rows_moved k z e g rows x source 1 g.width narrow whole (omega arith) some (omega arith)
    (λ r r1 rh on. (first_second k z g r nz whole r1 rh, past_second k z g r (g.width + 1) nz (omega arith))) from)
  where
    both : (a b : Bool) (p q : C) → b ≡ true → (if a && b then p else q) ≡ (if a then p else q)
    both true b p q is = rw is refl
    both false b p q is = refl

pub scroll_up_whole : {C : Type 0} (k : WideOf C) (z e : C) (g : GridOf C) (top bottom n : ℕ) → IsNarrow k z → IsNarrow k e → bottom ≤ g.size.rows → 1 ≤ g.width
    → IsWhole k z g → IsWhole k z (scroll_up_any z e g top bottom n)
scroll_up_whole k z e g top bottom n nz narrow low some whole =
    rows_scrolled k z e g (is_within top bottom) (λ r. nat_le (r + n) bottom) (λ r. r + n) nz narrow whole some
    (λ r is r1 rh on. (omega arith, grind (arith, nat_tests, on, low), grind (arith, nat_tests, on, is)))

pub scroll_down_whole : {C : Type 0} (k : WideOf C) (z e : C) (g : GridOf C) (top bottom n : ℕ) → IsNarrow k z → IsNarrow k e → 1 ≤ top → 1 ≤ g.width
    → IsWhole k z g → IsWhole k z (scroll_down_any z e g top bottom n)
scroll_down_whole k z e g top bottom n nz narrow low some whole =
    rows_scrolled k z e g (is_within top bottom) (λ r. nat_le (top + n) r) (λ r. r - n) nz narrow whole some
    (λ r is r1 rh on. (grind (arith, nat_tests, on, low), omega arith, grind (arith, nat_tests, on, is)))

-- ---- writing

-- the same with two columns
opened_twice : {C : Type 0} (k : WideOf C) (z e : C) (g : GridOf C) (row a b : ℕ) → AreHalves k → IsNarrow k z → IsNarrow k e → IsWhole k z g
    → 1 ≤ row → row ≤ g.size.rows → 1 ≤ a → 1 ≤ b → Opened k z (parted_twice k z (λ cell. e) g row a b) row a b b
unfolding parted
opened_twice {C = C} k z e g row a b halves nz narrow whole r1 rh a1 b1 =
    let const : C → C = λ cell. e in
    let always : (cell : C) → IsNarrow k (const cell) = λ cell. narrow in
    let keeps = keeps_always k const always in
    let this : ℕ → Bool = λ r. r == row in
    let on : this row ≡ true = grind (arith, nat_tests) in
    let P = parted k z const g this a in
    let P_whole = parted_whole k z const g this a halves keeps whole in
    let last = open_after k z const P this row b halves nz always P_whole r1 rh on b1 in
    record {
      whole = parted_whole k z const P this b halves keeps P_whole;
      first = open_kept k z const P this row a b always r1 rh (open_after k z const g this row a halves nz always whole r1 rh on a1);
      other = last;
      last = last;
    }

-- a row gets cells of a formula
pub in_row : {C : Type 0} (z : C) (g : GridOf C) (row : ℕ) (p : ℕ → C) (c : ℕ) → 1 ≤ row → row ≤ g.size.rows
    → beside z (row_any z g row p) row c ≡ (if is_within 1 g.width c then p c else z)
in_row z g row p c r1 rh =
    let this : (row == row) ≡ true = grind (arith, nat_tests) in
    made_at z g.size g.width (λ i j. if i == row then p j else at_or z g i j) row c r1 rh ∙ rw this refl

row_whole : {C : Type 0} (k : WideOf C) (z : C) (g : GridOf C) (row : ℕ) (p : ℕ → C) → IsWhole k z g
    → (1 ≤ row → row ≤ g.size.rows → Line k g.width (beside z (row_any z g row p) row)) → IsWhole k z (row_any z g row p)
row_whole k z g row p whole line =
    given_row_whole k z g row _ whole (λ r c other. elim (eqb_tells r row) [ inl e ↦ absurd (other e.1) | inr e ↦ rw e.0 refl ]) line

pub written_bytes_whole : {C : Type 0} (k : WideOf C) (z e : C) (g : GridOf C) (row col : ℕ) (bytes : List ℕ) (pen : C) → AreHalves k → IsNarrow k z → IsNarrow k e
    → All IsLetter bytes → AreIn g row col (col + length bytes - 1) → IsWhole k z g → IsWhole k z (written_bytes k z e g row col bytes pen)
unfolding parted
written_bytes_whole {C = C} k z e g row col bytes pen halves nz narrow letters place whole =
    run_whole k z (parted_twice k z (λ cell. e) g row col (col + length bytes)) row col (length bytes) (λ i. k.with_byte pen (slice_index bytes i)) (λ i low. halves.letter pen (slice_index bytes i) (shown (slice_index bytes i) (letters i 0 low)))
    (opened_twice k z e g row col (col + length bytes) halves nz narrow whole place.inside.0 place.inside.1 place.some.0 (omega (arith, place.some)))
    place.some
  where
    shown : (b : ℕ) → IsLetter b → nat_le 0x20 b ≡ true
    shown b is = grind (arith, nat_tests, is.0)

    run_whole : (k : WideOf C) (z : C) (G : GridOf C) (row col n : ℕ) (cell_of : ℕ → C) → ((i : ℕ) → i < n → IsNarrow k (cell_of i)) → Opened k z G row col (col + n) (col + n)
        → (1 ≤ col) × (col ≤ col + n - 1) × (col + n - 1 ≤ G.width) → IsWhole k z (run_any z cell_of G row col n)
    run_whole k z G row col n cell_of letters o some = row_whole k z G row _ o.whole (λ r1 rh.
        let p : ℕ → C = λ c. if nat_le col c && nat_lt c (col + n) then cell_of (c - col) else at_or z G row c in
        let N : ℕ → C = beside z (row_any z G row p) row in
        let here : (c : ℕ) → col ≤ c → c < col + n → N c ≡ cell_of (c - col) = λ c low high.
        let test : (nat_le col c && nat_lt c (col + n)) ≡ true = grind (arith, nat_tests, low, high) in
        let inside : is_within 1 G.width c ≡ true = grind (arith, nat_tests, low, high, some) in
        in_row z G row p c r1 rh ∙ rw (inside, test) refl in
        let out : (c : ℕ) → (nat_le col c && nat_lt c (col + n)) ≡ false → N c ≡ beside z G row c = λ c no. in_row z G row p c r1 rh ∙ rw no refl in
        spliced k (beside z G row) N N G.width col (col + n) (λ c cw. o.whole.fit row c r1 rh cw) (omega (arith, some))
        (λ c low. out c (grind (arith, nat_tests, low))) (λ c a b. refl) (λ c low. out c (grind (arith, nat_tests, low)))
        o.first o.last
        (λ c a b. fit_of (here c a (omega (arith, b))) (here (c + 1) (omega (arith, a)) b)
        (apart (letters (c - col) (omega (arith, a, b))).wide (letters (c + 1 - col) (omega (arith, a, b))).second))
        (ap k.is_second (here col (omega arith) (omega (arith, some))) ∙ (letters (col - col) (omega (arith, some))).second)
        (λ c is. ap k.is_wide (here c (omega (arith, is, some)) (omega (arith, is))) ∙ (letters (c - col) (omega (arith, is, some))).wide))

one_written : {C : Type 0} (k : WideOf C) (z : C) (G : GridOf C) (row col : ℕ) (cell : C) → IsNarrow k cell → Opened k z G row col (col + 1) (col + 1)
    → 1 ≤ col → col ≤ G.width → IsWhole k z (put_any z G row col cell)
one_written {C = C} k z G row col cell narrow o col1 high = row_whole k z G row _ o.whole (λ r1 rh.
    let p : ℕ → C = λ c. if c == col then cell else at_or z G row c in
    let N : ℕ → C = beside z (row_any z G row p) row in
    let here : N col ≡ cell =
    (let inside : is_within 1 G.width col ≡ true = grind (arith, nat_tests, col1, high) in
    let test : (col == col) ≡ true = grind (arith, nat_tests) in
    in_row z G row p col r1 rh ∙ rw (inside, test) refl) in
    let out : (c : ℕ) → (c == col) ≡ false → N c ≡ beside z G row c = λ c no. in_row z G row p c r1 rh ∙ rw no refl in
    spliced k (beside z G row) N N G.width col (col + 1) (λ c cw. o.whole.fit row c r1 rh cw) (omega arith)
    (λ c low. out c (grind (arith, nat_tests, low))) (λ c a b. refl) (λ c low. out c (grind (arith, nat_tests, low)))
    o.first o.last
    (λ c a b. absurd (omega (arith, a, b)))
    (ap k.is_second here ∙ narrow.second)
    (λ c is.
    let same : c ≡ col = omega (arith, is) in
    ap (λ x. k.is_wide (N x)) same ∙ ap k.is_wide here ∙ narrow.wide))

two_written : {C : Type 0} (k : WideOf C) (z : C) (G : GridOf C) (row col : ℕ) (cell : C) → AreHalves k → k.is_wide cell ≡ true
    → Opened k z G row col (col + 2) (col + 2) → 1 ≤ col → col + 1 ≤ G.width
    → IsWhole k z (put_any z (put_any z G row col cell) row (col + 1) (k.second cell))
two_written {C = C} k z G row col cell halves wide o col1 high =
    let p : ℕ → C = λ c. if c == col + 1 then k.second cell else (if c == col then cell else at_or z G row c) in
    subst (IsWhole k z) (sym (row_put z G row (col + 1) (λ c. if c == col then cell else at_or z G row c) (k.second cell)))
    (row_whole k z G row p o.whole (λ r1 rh.
    let N : ℕ → C = beside z (row_any z G row p) row in
    let here : N col ≡ cell =
    (let inside : is_within 1 G.width col ≡ true = grind (arith, nat_tests, col1, high) in
    let other : (col == col + 1) ≡ false = grind (arith, nat_tests) in
    let test : (col == col) ≡ true = grind (arith, nat_tests) in
    in_row z G row p col r1 rh ∙ rw (inside, other, test) refl) in
    let next : N (col + 1) ≡ k.second cell =
    (let inside : is_within 1 G.width (col + 1) ≡ true = grind (arith, nat_tests, col1, high) in
    let test : (col + 1 == col + 1) ≡ true = grind (arith, nat_tests) in
    in_row z G row p (col + 1) r1 rh ∙ rw (inside, test) refl) in
    let out : (c : ℕ) → (c == col + 1) ≡ false → (c == col) ≡ false → N c ≡ beside z G row c = λ c no none. in_row z G row p c r1 rh ∙ rw (no, none) refl in
    spliced k (beside z G row) N N G.width col (col + 2) (λ c cw. o.whole.fit row c r1 rh cw) (omega arith)
    (λ c low. out c (grind (arith, nat_tests, low)) (grind (arith, nat_tests, low))) (λ c a b. refl)
    (λ c low. out c (grind (arith, nat_tests, low)) (grind (arith, nat_tests, low)))
    o.first o.last
    (λ c a b.
    let same : c ≡ col = omega (arith, a, b) in
    rw same (fit_of here next (record { wide = wide ∙ sym (halves.second cell); second = λ h. refl })))
    (ap k.is_second here ∙ halves.first cell wide)
    (λ c is.
    let same : c ≡ col + 1 = omega (arith, is) in
    ap (λ x. k.is_wide (N x)) same ∙ ap k.is_wide next ∙ halves.ends cell)))

pub written_whole : {C : Type 0} (k : WideOf C) (z e : C) (g : GridOf C) (row col : ℕ) (cell : C) → AreHalves k → IsNarrow k z → IsNarrow k e
    → k.is_second cell ≡ false → AreIn g row col (col + columns k cell - 1) → IsWhole k z g → IsWhole k z (written k z e g row col cell)
unfolding parted
written_whole {C = C} k z e g row col cell halves nz narrow first place whole = go (k.is_wide cell) refl place
  where
    go : (x : Bool) → k.is_wide cell ≡ x → AreIn g row col (col + (if x then 2 else 1) - 1) → IsWhole k z
        (if x then put_any z (put_any z (parted_twice k z (λ cell. e) g row col (col + 2)) row col cell) row (col + 1) (k.second cell)
        else put_any z (parted_twice k z (λ cell. e) g row col (col + 1)) row col cell)
    go true is place = two_written k z (parted_twice k z (λ cell. e) g row col (col + 2)) row col cell halves is
        (opened_twice k z e g row col (col + 2) halves nz narrow whole place.inside.0 place.inside.1 place.some.0 (omega arith)) place.some.0 (omega (arith, place.some))
    go false is place = one_written k z (parted_twice k z (λ cell. e) g row col (col + 1)) row col cell (record { wide = is; second = first })
        (opened_twice k z e g row col (col + 1) halves nz narrow whole place.inside.0 place.inside.1 place.some.0 (omega arith)) place.some.0 (omega (arith, place.some))

pub written_inserting_whole : {C : Type 0} (k : WideOf C) (z e : C) (g : GridOf C) (row col right : ℕ) (cell : C) → AreHalves k → IsNarrow k z → IsNarrow k e
    → k.is_second cell ≡ false → AreIn g row col right → col + columns k cell ≤ right + 1 → IsWhole k z g
    → IsWhole k z (written_inserting k z e g row col right cell)
unfolding parted
written_inserting_whole k z e g row col right cell halves nz narrow first place room whole =
    written_whole k z e (inserted k z e g row col right (columns k cell)) row col cell halves nz narrow first
    (record { inside = place.inside; some = (place.some.0, omega (arith, some), omega (arith, place.some, room)) })
    (inserted_whole k z e g row col right (columns k cell) halves nz narrow place whole)
  where
    any : (x : Bool) → 1 ≤ (if x then 2 else 1)
    any true = omega arith
    any false = omega arith

    some : 1 ≤ columns k cell
    some = any (k.is_wide cell)

-- ---- marks

-- the cell that a mark joins is in the row, and no second one
pub joined_place : {C : Type 0} (k : WideOf C) (z : C) (g : GridOf C) (row col : ℕ) (wrap : Bool) → AreHalves k → IsNarrow k z → AreIn g row col col
    → IsWhole k z g → (1 ≤ joined_column k z g row col wrap) × (joined_column k z g row col wrap ≤ g.width)
    × (k.is_second (beside z g row (joined_column k z g row col wrap)) ≡ false)
joined_place {C = C} k z g row col wrap halves nz place whole =
    let at = if wrap || col == 1 then col else col - 1 in
    let inside = within (wrap || col == 1) refl in
    first_of at inside.0 inside.1 (is_parted k z g row at) refl
  where
    within : (x : Bool) → (wrap || col == 1) ≡ x → (1 ≤ (if x then col else col - 1)) × ((if x then col else col - 1) ≤ g.width)
    within true is = (omega (arith, place.some), omega (arith, place.some))
    within false is =
        let low : col ≢ 1 = λ h. grind (arith, nat_tests, is, h) in
        (omega (arith, place.some, low), omega (arith, place.some))

    first_of : (at : ℕ) → 1 ≤ at → at ≤ g.width → (x : Bool) → is_parted k z g row at ≡ x
        → (1 ≤ (if x then at - 1 else at)) × ((if x then at - 1 else at) ≤ g.width) × (k.is_second (beside z g row (if x then at - 1 else at)) ≡ false)
    first_of at at1 high true is =
        let low : 2 ≤ at = grind (arith, nat_tests, is) in
        let second : k.is_second (at_or z g row at) ≡ true = grind (arith, nat_tests, is) in
        let next : at - 1 + 1 ≡ at = omega (arith, low) in
        let wide : k.is_wide (beside z g row (at - 1)) ≡ true =
        (whole.fit row (at - 1) place.inside.0 place.inside.1 (omega (arith, high))).wide
        ∙ ap (λ x. k.is_second (beside z g row x)) next ∙ ap k.is_second (beside_in z g row at at1 high) ∙ second in
        (omega (arith, low), omega (arith, high), halves.first (beside z g row (at - 1)) wide)
    first_of at at1 high false is = (
      at1,
      high,
      elim (leb_tells 2 at) [
        | inl l ↦
            let second : k.is_second (at_or z g row at) ≡ false = grind (arith, nat_tests, is, l.1, high) in
            ap k.is_second (beside_in z g row at at1 high) ∙ second
        | inr l ↦
            let one : at ≡ 0 + 1 = omega (arith, l, at1) in
            ap (λ x. k.is_second (beside z g row x)) one ∙ first_second k z g row nz whole place.inside.0 place.inside.1
      ],
    )

pub joined_whole : {C : Type 0} (k : WideOf C) (z : C) (g : GridOf C) (row col : ℕ) (wrap : Bool) (mark : ℕ) → AreHalves k → IsNarrow k z
    → AreIn g row col col → IsWhole k z g → IsWhole k z (joined k z g row (joined_column k z g row col wrap) mark)
joined_whole {C = C} k z g row col wrap mark halves nz place whole = row_whole k z g row _ whole (λ r1 rh.
    let j = joined_column k z g row col wrap in
    let o = joined_place k z g row col wrap halves nz place whole in
    let p : ℕ → C = λ c. if c == j then k.marked (at_or z g row j) mark else at_or z g row c in
    let here : is_within 1 g.width j ≡ true = grind (arith, nat_tests, o) in
    let test : (j == j) ≡ true = grind (arith, nat_tests) in
    joined_line k (beside z g row) (beside z (row_any z g row p) row) g.width j mark halves (λ c cw. whole.fit row c r1 rh cw)
    (in_row z g row p j r1 rh ∙ rw (here, test) refl)
    (λ c other. in_row z g row p c r1 rh ∙ elim (eqb_tells c j) [ inl e ↦ absurd (other e.1) | inr e ↦ rw e.0 refl ])
    o.2)

-- REP repeats a first cell, or that of a narrow character
pub joined_first : {C : Type 0} (k : WideOf C) (z : C) (g : GridOf C) (row col : ℕ) (wrap : Bool) → AreHalves k → IsNarrow k z → AreIn g row col col
    → IsWhole k z g → k.is_second (at_or z g row (joined_column k z g row col wrap)) ≡ false
joined_first k z g row col wrap halves nz place whole =
    let o = joined_place k z g row col wrap halves nz place whole in
    sym (ap k.is_second (beside_in z g row (joined_column k z g row col wrap) o.0 o.1)) ∙ o.2
