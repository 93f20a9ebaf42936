-- Writing a page in the order of reading.
use Rattle.std.proofs.Common.{◌≡◌, inl, inr, ℕ, ◌+◌, ◌-◌, ◌≤◌, ◌<◌, Bool, true, false, ◌&&◌, ◌||◌, ◌==◌, if◌then◌else◌, arith, refl, sym, ap, ◌∙◌}
use Rattle.std.specs.Prelude.{nat_le, nat_lt}
use Rattle.std.proofs.lemmas.Bool.Decides.{nat_tests, eqb_tells, leb_tells}
use Rattle.std.proofs.lemmas.Bool.{false≢true}
use Rattle.vt_screen.specs.Grid.{GridOf, IsGrid, grid_of, at_or, put_any}
use Rattle.vt_screen.proofs.Places.{cell_at-grid_of, grid_of-same, grid_of-cell_at, IsGrid-grid_of}
use Rattle.vt_wide.specs.Kinds.{WideOf, AreHalves}
use Rattle.vt_wide.specs.Edits.{is_parted, parted_row, parted_twice, written, columns, first_column, joined_column, joined}
use Rattle.vt_wide.proofs.Parting.{parted_else}
use Rattle.vt_xterm_repaint.specs.Painted.{is_read, painted, placed}

module _ {C : Type 0} (k : WideOf C) (z : C) where
  painted_at : (t : GridOf C) (row col r c : ℕ) → 1 ≤ r → r ≤ t.size.rows → 1 ≤ c → c ≤ t.width
      → at_or z (painted z t row col) r c ≡ (if is_read row col r c then at_or z t r c else z)
  painted_at t row col r c r1 rh c1 cw =
      cell_at-grid_of z t.size t.width (λ r c. if is_read row col r c then at_or z t r c else z) r c r1 rh c1 cw

  pub painted_grid : (t : GridOf C) (row col : ℕ) → IsGrid t → IsGrid (painted z t row col)
  painted_grid t row col grid = IsGrid-grid_of t.size t.width _ grid.size grid.width

  -- a cell of a grid into which one was put
  put_formula : (g : GridOf C) (row col r c : ℕ) (x : C)
      → (if r == row then (if c == col then x else at_or z g row c) else at_or z g r c) ≡ (if r == row && c == col then x else at_or z g r c)
  put_formula g row col r c x = elim (eqb_tells r row) [
    | inl e ↦ elim (eqb_tells c col) [
      | inl f ↦ rw (e.0, f.0) refl
      | inr f ↦ rw (e.0, f.0, e.1) refl
    ]
    | inr e ↦ rw e.0 refl
  ]

  pub put_at : (g : GridOf C) (row col r c : ℕ) (x : C) → 1 ≤ r → r ≤ g.size.rows → 1 ≤ c → c ≤ g.width
      → at_or z (put_any z g row col x) r c ≡ (if r == row && c == col then x else at_or z g r c)
  put_at g row col r c x r1 rh c1 cw =
      cell_at-grid_of z g.size g.width (λ i j. if i == row then (if j == col then x else at_or z g row j) else at_or z g i j) r c r1 rh c1 cw
      ∙ put_formula g row col r c x

  -- the next cell
  pub painted_next : (t : GridOf C) (row col : ℕ) → 1 ≤ row → row ≤ t.size.rows
      → put_any z (painted z t row col) row (col + 1) (at_or z t row (col + 1)) ≡ painted z t row (col + 1)
  painted_next t row col r1 rh = grid_of-same t.size t.width _ _ (λ r c s1 sh c1 cw.
      put_formula (painted z t row col) row (col + 1) r c (at_or z t row (col + 1)) ∙ go r c s1 sh c1 cw (r == row && c == col + 1) refl)
    where
      go : (r c : ℕ) → 1 ≤ r → r ≤ t.size.rows → 1 ≤ c → c ≤ t.width → (here : Bool) → (r == row && c == col + 1) ≡ here
          → (if here then at_or z t row (col + 1) else at_or z (painted z t row col) r c)
          ≡ (if is_read row (col + 1) r c then at_or z t r c else z)
      go r c s1 sh c1 cw true is =
          let at_row : row ≡ r = grind (arith, nat_tests, is) in
          let at_col : col + 1 ≡ c = grind (arith, nat_tests, is) in
          let yes : is_read row (col + 1) r c ≡ true = grind (arith, nat_tests, at_row, at_col) in
          ap (λ x. at_or z t x (col + 1)) at_row ∙ ap (at_or z t r) at_col ∙ rw yes refl
      go r c s1 sh c1 cw false is =
          let same : is_read row (col + 1) r c ≡ is_read row col r c = grind (arith, nat_tests, is) in
          painted_at t row col r c s1 sh c1 cw ∙ rw same refl

  -- nothing is parted behind what is written
  pub behind_whole : (t : GridOf C) (row col end : ℕ) → k.is_second z ≡ false → 1 ≤ row → row ≤ t.size.rows → col < end
      → is_parted k z (painted z t row col) row end ≡ false
  behind_whole t row col end narrow r1 rh behind = elim (leb_tells 2 end) [
    | inr a ↦ rw a.0 refl
    | inl a ↦ elim (leb_tells end t.width) [
      | inr b ↦ rw (a.0, b.0) refl
      | inl b ↦
          let out : is_read row col row end ≡ false = grind (arith, nat_tests, behind) in
          rw (a.0, b.0, painted_at t row col row end r1 rh (omega (arith, a.1)) b.1, out, narrow) refl
    ]
  ]

  -- a character is written behind what is written
  pub written_behind : (e cell : C) (t : GridOf C) (row col : ℕ) → k.is_second z ≡ false → IsGrid t → 1 ≤ row → row ≤ t.size.rows
      → written k z e (painted z t row col) row (col + 1) cell ≡ placed k z (painted z t row col) row (col + 1) cell
  written_behind e cell t row col narrow grid r1 rh = go (k.is_wide cell)
    where
      none : (end : ℕ) → col < end → parted_row k z (λ x. e) (painted z t row col) row end ≡ painted z t row col
      none end behind = sym (parted_else k z (λ x. e) (painted z t row col) row end (behind_whole t row col end narrow r1 rh behind)
          (painted_grid t row col grid))

      twice : (end : ℕ) → col < end → parted_twice k z (λ x. e) (painted z t row col) row (col + 1) end ≡ painted z t row col
      twice end behind =
          ap (λ (g : GridOf C). parted_row k z (λ x. e) g row end) (none (col + 1) (omega arith)) ∙ none end behind

      go : (wide : Bool) → (if wide
          then put_any z (put_any z (parted_twice k z (λ x. e) (painted z t row col) row (col + 1) (col + 1 + 2)) row (col + 1) cell) row (col + 1 + 1) (k.second cell)
          else put_any z (parted_twice k z (λ x. e) (painted z t row col) row (col + 1) (col + 1 + 1)) row (col + 1) cell)
          ≡ (if wide then put_any z (put_any z (painted z t row col) row (col + 1) cell) row (col + 1 + 1) (k.second cell)
          else put_any z (painted z t row col) row (col + 1) cell)
      go true = ap (λ (g : GridOf C). put_any z (put_any z g row (col + 1) cell) row (col + 1 + 1) (k.second cell)) (twice (col + 1 + 2) (omega arith))
      go false = ap (λ (g : GridOf C). put_any z g row (col + 1) cell) (twice (col + 1 + 1) (omega arith))

  -- the page's own character
  pub placed_next : (t : GridOf C) (row col : ℕ) → 1 ≤ row → row ≤ t.size.rows
      → (k.is_wide (at_or z t row (col + 1)) ≡ true → at_or z t row (col + 1 + 1) ≡ k.second (at_or z t row (col + 1)))
      → placed k z (painted z t row col) row (col + 1) (at_or z t row (col + 1))
      ≡ painted z t row (col + columns k (at_or z t row (col + 1)))
  placed_next t row col r1 rh second = go (k.is_wide (at_or z t row (col + 1))) refl
    where
      go : (wide : Bool) → k.is_wide (at_or z t row (col + 1)) ≡ wide
          → (if wide then put_any z (put_any z (painted z t row col) row (col + 1) (at_or z t row (col + 1))) row (col + 1 + 1) (k.second (at_or z t row (col + 1)))
          else put_any z (painted z t row col) row (col + 1) (at_or z t row (col + 1)))
          ≡ painted z t row (col + (if wide then 2 else 1))
      go true is =
          let place : col + 1 + 1 ≡ col + 2 = omega arith in
          ap (λ (g : GridOf C). put_any z g row (col + 1 + 1) (k.second (at_or z t row (col + 1)))) (painted_next t row col r1 rh)
          ∙ ap (λ (x : C). put_any z (painted z t row (col + 1)) row (col + 1 + 1) x) (sym (second is))
          ∙ painted_next t row (col + 1) r1 rh ∙ ap (painted z t row) place
      go false is = painted_next t row col r1 rh

  -- ---- marks

  put_put : (g : GridOf C) (row col : ℕ) (x y : C) → 1 ≤ row → row ≤ g.size.rows
      → put_any z (put_any z g row col x) row col y ≡ put_any z g row col y
  put_put g row col x y r1 rh = grid_of-same g.size g.width _ _ (λ r c s1 sh c1 cw. elim (eqb_tells r row) [
    | inl e ↦ elim (eqb_tells c col) [
      | inl f ↦ rw (e.0, f.0) refl
      | inr f ↦ rw (e.0, f.0, put_at g row col row c x r1 rh c1 cw, f.0) (and_no (row == row) (at_or z g row c))
    ]
    | inr e ↦ rw (e.0, put_at g row col r c x s1 sh c1 cw, e.0) refl
  ])
    where
      and_no : (a : Bool) (u : C) → (if a && false then x else u) ≡ u
      and_no true u = refl
      and_no false u = refl

  put_other : (g : GridOf C) (row col : ℕ) (x y s : C) → 1 ≤ row → row ≤ g.size.rows
      → put_any z (put_any z (put_any z g row col x) row (col + 1) s) row col y ≡ put_any z (put_any z g row col y) row (col + 1) s
  put_other g row col x y s r1 rh = grid_of-same g.size g.width _ _ (λ r c s1 sh c1 cw. elim (eqb_tells r row) [
    | inl e ↦ elim (eqb_tells c col) [
      | inl f ↦
          let not : (c == col + 1) ≡ false = grind (arith, nat_tests, f.1) in
          let this : (row == row) ≡ true = grind (arith, nat_tests) in
          rw (e.0, f.0, not, put_at g row col row c y r1 rh c1 cw, this, f.0) refl
      | inr f ↦ elim (eqb_tells c (col + 1)) [
        | inl d ↦
            let this : (row == row) ≡ true = grind (arith, nat_tests) in
            rw (e.0, f.0, d.0, put_at (put_any z g row col x) row (col + 1) row c s r1 rh c1 cw, this, d.0) refl
        | inr d ↦
            let this : (row == row) ≡ true = grind (arith, nat_tests) in
            rw (
              e.0,
              f.0,
              d.0,
              put_at (put_any z g row col x) row (col + 1) row c s r1 rh c1 cw,
              this,
              d.0,
              put_at g row col row c x r1 rh c1 cw,
              put_at g row col row c y r1 rh c1 cw,
              this,
              f.0,
            ) refl
      ]
    ]
    | inr e ↦ rw (
      e.0,
      put_at (put_any z g row col x) row (col + 1) r c s s1 sh c1 cw,
      e.0,
      put_at g row col r c x s1 sh c1 cw,
      put_at g row col r c y s1 sh c1 cw,
      e.0,
    ) refl
  ])

  placed_at : (g : GridOf C) (row col : ℕ) (x : C) → 1 ≤ row → row ≤ g.size.rows → 1 ≤ col → col ≤ g.width
      → at_or z (placed k z g row col x) row col ≡ x
  placed_at g row col x r1 rh c1 cw = go (k.is_wide x)
    where
      this : (row == row) ≡ true
      this = grind (arith, nat_tests)

      here : (col == col) ≡ true
      here = grind (arith, nat_tests)

      beyond : (col == col + 1) ≡ false
      beyond = grind (arith, nat_tests)

      go : (wide : Bool) → at_or z (if wide then put_any z (put_any z g row col x) row (col + 1) (k.second x) else put_any z g row col x) row col ≡ x
      go true = put_at (put_any z g row col x) row (col + 1) row col (k.second x) r1 rh c1 cw
          ∙ rw (this, beyond, put_at g row col row col x r1 rh c1 cw, this, here) refl
      go false = put_at g row col row col x r1 rh c1 cw ∙ rw (this, here) refl

  -- the cell of a character is put once more
  placed_put : (g : GridOf C) (row col : ℕ) (x y : C) → 1 ≤ row → row ≤ g.size.rows → k.is_wide y ≡ k.is_wide x → k.second y ≡ k.second x
      → put_any z (placed k z g row col x) row col y ≡ placed k z g row col y
  placed_put g row col x y r1 rh wide second = go (k.is_wide x) (k.is_wide y) wide
    where
      go : (a b : Bool) → b ≡ a
          → put_any z (if a then put_any z (put_any z g row col x) row (col + 1) (k.second x) else put_any z g row col x) row col y
          ≡ (if b then put_any z (put_any z g row col y) row (col + 1) (k.second y) else put_any z g row col y)
      go true true is = put_other g row col x y (k.second x) r1 rh
          ∙ ap (λ (s : C). put_any z (put_any z g row col y) row (col + 1) s) (sym second)
      go false false is = put_put g row col x y r1 rh
      go true false is = absurd (false≢true is)
      go false true is = absurd (false≢true (sym is))

  -- the column that a mark joins is that of the character
  pub joined_placed : (halves : AreHalves k) (g : GridOf C) (row col : ℕ) (x : C) (m : ℕ) → 1 ≤ row → row ≤ g.size.rows → 1 ≤ col → col ≤ g.width
      → joined k z (placed k z g row col x) row col m ≡ placed k z g row col (k.marked x m)
  joined_placed halves g row col x m r1 rh c1 cw =
      ap (λ (y : C). put_any z (placed k z g row col x) row col (k.marked y m)) (placed_at g row col x r1 rh c1 cw)
      ∙ placed_put g row col x (k.marked x m) r1 rh (halves.marked_wide x m) (halves.marked_second x m)

  -- that is the column before the cursor, or the one under it if a wrap is pending, or the one before that
  pub mark_column : (halves : AreHalves k) (g : GridOf C) (row col : ℕ) (x : C) (wrap : Bool) (at : ℕ) → 1 ≤ row → row ≤ g.size.rows → 1 ≤ col
      → col + columns k x ≤ g.width + 1 → k.is_second x ≡ false
      → (if wrap || at == 1 then at else at - 1) ≡ col + columns k x - 1
      → joined_column k z (placed k z g row col x) row at wrap ≡ col
  mark_column halves g row col x wrap at r1 rh c1 room first is =
      ap (first_column k z (placed k z g row col x) row) is ∙ go (k.is_wide x) refl room
    where
      this : (row == row) ≡ true
      this = grind (arith, nat_tests)

      go : (wide : Bool) → k.is_wide x ≡ wide → col + (if wide then 2 else 1) ≤ g.width + 1
          → first_column k z (if wide then put_any z (put_any z g row col x) row (col + 1) (k.second x) else put_any z g row col x) row (col + (if wide then 2 else 1) - 1)
          ≡ col
      go true is fits =
          let place : col + 2 - 1 ≡ col + 1 = omega arith in
          let low : nat_le 2 (col + 1) ≡ true = grind (arith, nat_tests, c1) in
          let high : nat_le (col + 1) g.width ≡ true = grind (arith, nat_tests, fits) in
          let there : (col + 1 == col + 1) ≡ true = grind (arith, nat_tests) in
          rw (
            place,
            low,
            high,
            put_at (put_any z g row col x) row (col + 1) row (col + 1) (k.second x) r1 rh (omega arith) (omega (arith, fits)),
            this,
            there,
            halves.second x,
          ) (omega arith)
      go false is fits =
          let place : col + 1 - 1 ≡ col = omega arith in
          let there : (col == col) ≡ true = grind (arith, nat_tests) in
          let none : is_parted k z (put_any z g row col x) row col ≡ false = elim (leb_tells 2 col) [
            | inr a ↦ rw a.0 refl
            | inl a ↦ elim (leb_tells col g.width) [
              | inr b ↦ rw (a.0, b.0) refl
              | inl b ↦ rw (a.0, b.0, put_at g row col row col x r1 rh c1 b.1, this, there, first) refl
            ]
          ] in
          rw (place, none) refl

  -- ---- rows

  -- blank cells at the end are there
  pub painted_blanks : (t : GridOf C) (row col : ℕ) → ((c : ℕ) → col < c → c ≤ t.width → at_or z t row c ≡ z)
      → painted z t row col ≡ painted z t row t.width
  painted_blanks t row col blank = grid_of-same t.size t.width _ _ (λ r c s1 sh c1 cw. elim (eqb_tells r row) [
    | inl e ↦ elim (leb_tells c col) [
      | inl f ↦
          let all : nat_le c t.width ≡ true = grind (arith, nat_tests, cw) in
          rw (e.0, f.0, all) refl
      | inr f ↦
          let all : nat_le c t.width ≡ true = grind (arith, nat_tests, cw) in
          let here : at_or z t r c ≡ z = ap (λ x. at_or z t x c) e.1 ∙ blank c (omega (arith, f.1)) cw in
          rw (e.0, f.0, all, here) (same (nat_lt r row))
    ]
    | inr e ↦ rw e.0 refl
  ])
    where
      same : (a : Bool) → (if a || (true && false) then z else z) ≡ (if a || (true && true) then z else z)
      same true = refl
      same false = refl

  pub painted_row : (t : GridOf C) (row : ℕ) → painted z t row t.width ≡ painted z t (row + 1) 0
  painted_row t row = grid_of-same t.size t.width _ _ (λ r c s1 sh c1 cw.
      let same : is_read row t.width r c ≡ is_read (row + 1) 0 r c = grind (arith, nat_tests, c1, cw) in
      rw same refl)

  pub painted_none : (t : GridOf C) → painted z t 1 0 ≡ grid_of t.size t.width (λ r c. z)
  painted_none t = grid_of-same t.size t.width _ _ (λ r c s1 sh c1 cw.
      let none : is_read 1 0 r c ≡ false = grind (arith, nat_tests, s1, c1) in
      rw none refl)

  pub painted_all : (t : GridOf C) → IsGrid t → painted z t (t.size.rows + 1) 0 ≡ t
  painted_all t grid = grid_of-same t.size t.width _ (at_or z t) (λ r c s1 sh c1 cw.
      let all : is_read (t.size.rows + 1) 0 r c ≡ true = grind (arith, nat_tests, sh) in
      rw all refl)
      ∙ grid_of-cell_at z t grid.cells
