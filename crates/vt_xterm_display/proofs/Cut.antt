-- A page on a screen of another size parts no character.
use Rattle.std.proofs.Common.{◌≡◌, inl, inr, ℕ, ◌+◌, ◌≤◌, ◌<◌, Bool, true, false, ◌==◌, ◌&&◌, if◌then◌else◌, arith, refl, sym, ap, ◌∙◌, subst}
use Rattle.std.specs.Prelude.{nat_le}
use Rattle.std.proofs.lemmas.Bool.{false≢true}
use Rattle.std.proofs.lemmas.Bool.Decides.{nat_tests, eqb_tells, leb_tells}
use Rattle.vt_screen.specs.declared.size.Size.{Size}
use Rattle.vt_screen.specs.Grid.{at_or, is_within, grid_on_any, width_on_any}
use Rattle.vt_screen.proofs.Places.{cell_at-grid_of}
use Rattle.vt_screen.proofs.Maps.{among}
use Rattle.vt_wide.specs.Whole.{beside, Fit, IsWhole}
use Rattle.vt_wide.proofs.Lines.{apart, fit_of}
use Rattle.vt_wide.proofs.Wholes.{made_at}
use Rattle.vt_xterm_cell.specs.Words.{CellParts}
use Rattle.vt_xterm_cell.specs.Cells.{blank_cell, is_second, space_with}
use Rattle.vt_xterm_cell.specs.Wide.{xterm_wide}
use Rattle.vt_xterm_display.specs.State.{Grid}
use Rattle.vt_xterm_display.specs.Resizing.{halved, edged, xterm_grid_on}

-- a space takes the place of a first cell
halved_narrow : (cell : CellParts) → (halved cell).wide ≡ false
halved_narrow cell = go cell.wide refl
  where
    go : (w : Bool) → cell.wide ≡ w → (if cell.wide then space_with cell.look else cell).wide ≡ false
    go true is = rw is refl
    go false is = rw is refl

-- the last cell of a row, after another one
halved_fit : (a b : CellParts) → Fit xterm_wide a b → Fit xterm_wide a (halved b)
halved_fit a b fit = go b.wide refl
  where
    before : b.wide ≡ true → a.wide ≡ false
    before is = fit.wide ∙ rw is refl

    go : (w : Bool) → b.wide ≡ w → Fit xterm_wide a (if b.wide then space_with b.look else b)
    go true is = subst (λ (x : Bool). Fit xterm_wide a (if x then space_with b.look else b)) (sym is) (apart (before is) refl)
    go false is = subst (λ (x : Bool). Fit xterm_wide a (if x then space_with b.look else b)) (sym is) fit

module _ (size : Size) (off : ℕ) (g : Grid) (whole : IsWhole xterm_wide blank_cell g) (some : 1 ≤ width_on_any size g) where
  abbrev w : ℕ
  w = width_on_any size g

  -- a cell of the page before its last column is changed
  kept_at : (r c : ℕ) → 1 ≤ r → r ≤ size.rows → 1 ≤ c → c ≤ w → r + off ≤ g.size.rows
      → at_or blank_cell (grid_on_any blank_cell size off g) r c ≡ beside blank_cell g (r + off) c
  kept_at r c r1 rh c1 cw stays =
      let rows : nat_le (r + off) g.size.rows ≡ true = grind (arith, nat_tests, stays) in
      let from : nat_le 1 c ≡ true = grind (arith, nat_tests, c1) in
      cell_at-grid_of blank_cell size w (λ i j. if nat_le (i + off) g.size.rows && nat_le j g.width then at_or blank_cell g (i + off) j else blank_cell) r c r1 rh c1 cw
      ∙ rw (rows, from) refl

  lost_at : (r c : ℕ) → 1 ≤ r → r ≤ size.rows → 1 ≤ c → c ≤ w → g.size.rows < r + off
      → at_or blank_cell (grid_on_any blank_cell size off g) r c ≡ blank_cell
  lost_at r c r1 rh c1 cw lost =
      let rows : nat_le (r + off) g.size.rows ≡ false = grind (arith, nat_tests, lost) in
      cell_at-grid_of blank_cell size w (λ i j. if nat_le (i + off) g.size.rows && nat_le j g.width then at_or blank_cell g (i + off) j else blank_cell) r c r1 rh c1 cw
      ∙ rw rows refl

  abbrev H : Grid
  H = xterm_grid_on size off g

  new_at : (r c : ℕ) → 1 ≤ r → r ≤ size.rows
      → beside blank_cell H r c ≡ (if is_within 1 w c then (if c == w then halved (at_or blank_cell (grid_on_any blank_cell size off g) r c)
      else at_or blank_cell (grid_on_any blank_cell size off g) r c) else blank_cell)
  new_at r c r1 rh = made_at blank_cell size w (λ i j. if j == w then halved (at_or blank_cell (grid_on_any blank_cell size off g) i j)
      else at_or blank_cell (grid_on_any blank_cell size off g) i j) r c r1 rh

  -- a cell left of the last column, and the last one
  inner : (r c : ℕ) → 1 ≤ r → r ≤ size.rows → c < w → r + off ≤ g.size.rows → beside blank_cell H r c ≡ beside blank_cell g (r + off) c
  inner r c r1 rh low stays = new_at r c r1 rh ∙ elim (among 1 w c) [
    | inl t ↦
        let left : (c == w) ≡ false = grind (arith, nat_tests, low) in
        rw (t.0, left) (kept_at r c r1 rh t.1 t.2 stays)
    | inr t ↦
        let out : is_within 1 g.width c ≡ false = grind (arith, nat_tests, t.1, low) in
        rw (t.0, out) refl
  ]

  last : (r c : ℕ) → 1 ≤ r → r ≤ size.rows → c ≡ w → r + off ≤ g.size.rows → beside blank_cell H r c ≡ halved (beside blank_cell g (r + off) c)
  last r c r1 rh is stays =
      let within : is_within 1 w c ≡ true = grind (arith, nat_tests, is, some) in
      let here : (c == w) ≡ true = grind (arith, nat_tests, is) in
      new_at r c r1 rh ∙ rw (within, here) (ap halved (kept_at r c r1 rh (omega (arith, is, some)) (omega (arith, is)) stays))

  beyond : (r c : ℕ) → 1 ≤ r → r ≤ size.rows → w < c → beside blank_cell H r c ≡ blank_cell
  beyond r c r1 rh out =
      let none : is_within 1 w c ≡ false = grind (arith, nat_tests, out) in
      new_at r c r1 rh ∙ rw none refl

  blank : (r c : ℕ) → 1 ≤ r → r ≤ size.rows → g.size.rows < r + off → beside blank_cell H r c ≡ blank_cell
  blank r c r1 rh lost = new_at r c r1 rh ∙ elim (among 1 w c) [
    | inl t ↦ rw (t.0, lost_at r c r1 rh t.1 t.2 lost) (either (c == w))
    | inr t ↦ rw t.0 refl
  ]
    where
      either : (x : Bool) → (if x then halved blank_cell else blank_cell) ≡ blank_cell
      either true = refl
      either false = refl

  -- a cell that begins no character's second half, in a row that stays
  halved_first : (cell : CellParts) → is_second cell ≡ false → is_second (halved cell) ≡ false
  halved_first cell first = go cell.wide
    where
      go : (x : Bool) → is_second (if x then space_with cell.look else cell) ≡ false
      go true = refl
      go false = first

  pub on_first : (r c : ℕ) → 1 ≤ r → r ≤ size.rows → r + off ≤ g.size.rows → is_second (beside blank_cell g (r + off) c) ≡ false
      → is_second (beside blank_cell H r c) ≡ false
  on_first r c r1 rh stays first = elim (leb_tells c w) [
    | inr out ↦ ap is_second (beyond r c r1 rh out.1)
    | inl inside ↦ elim (eqb_tells c w) [
      | inl e ↦ ap is_second (last r c r1 rh e.1 stays) ∙ halved_first (beside blank_cell g (r + off) c) first
      | inr e ↦ ap is_second (inner r c r1 rh (omega (arith, inside.1, e.1)) stays) ∙ first
    ]
  ]

  pub on_whole : IsWhole xterm_wide blank_cell H
  on_whole = record { fit = fits }
    where
      fits : (r c : ℕ) → 1 ≤ r → r ≤ size.rows → c ≤ w → Fit xterm_wide (beside blank_cell H r c) (beside blank_cell H r (c + 1))
      fits r c r1 rh cw = elim (leb_tells (r + off) g.size.rows) [
        | inr lost ↦ fit_of (blank r c r1 rh lost.1) (blank r (c + 1) r1 rh lost.1) (apart refl refl)
        | inl stays ↦ elim (eqb_tells c w) [
          | inl e ↦ fit_of (last r c r1 rh e.1 stays.1) (beyond r (c + 1) r1 rh (omega (arith, e.1)))
              (apart (halved_narrow (beside blank_cell g (r + off) c)) refl)
          | inr e ↦ elim (eqb_tells (c + 1) w) [
            | inl d ↦ fit_of (inner r c r1 rh (omega (arith, d.1)) stays.1) (last r (c + 1) r1 rh d.1 stays.1) (after r c stays.1 r1)
            | inr d ↦ fit_of (inner r c r1 rh (omega (arith, cw, e.1)) stays.1) (inner r (c + 1) r1 rh (omega (arith, cw, e.1, d.1)) stays.1) (old r c stays.1 r1)
          ]
        ]
      ]
        where
          old : (r c : ℕ) → r + off ≤ g.size.rows → 1 ≤ r → Fit xterm_wide (beside blank_cell g (r + off) c) (beside blank_cell g (r + off) (c + 1))
          old r c rows r1 = elim (leb_tells c g.width) [
            | inl h ↦ whole.fit (r + off) c (omega (arith, r1)) rows h.1
            | inr h ↦
                let out : is_within 1 g.width c ≡ false = grind (arith, nat_tests, h.1) in
                let further : is_within 1 g.width (c + 1) ≡ false = grind (arith, nat_tests, h.1) in
                rw (out, further) (apart refl refl)
          ]

          after : (r c : ℕ) → r + off ≤ g.size.rows → 1 ≤ r → Fit xterm_wide (beside blank_cell g (r + off) c) (halved (beside blank_cell g (r + off) (c + 1)))
          after r c rows r1 = halved_fit _ _ (old r c rows r1)
