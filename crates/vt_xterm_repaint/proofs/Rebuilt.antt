-- A repaint's actions make the state.
use Rattle.std.proofs.Common.{◌≡◌, inl, inr, ℕ, ◌+◌, ◌-◌, ◌≤◌, ◌<◌, Bool, true, false, None, [], ◌∷◌, ◌++◌, length, min, arith, rules, refl, sym, ap, ◌∙◌, subst}
use Rattle.std.specs.Prelude.{nat_le, nat_lt, ◌==◌, ◌&&◌, ◌||◌, ◌⊎◌, not, if◌then◌else◌}
use Rattle.std.proofs.lemmas.Bool.{false≢true}
use Rattle.std.proofs.lemmas.Bool.Decides.{nat_tests, leb_tells}
use Rattle.std.proofs.lemmas.List.FromFn.{length-map-range_with_len}
use Rattle.vt_glyph.specs.GraphicSets.{GraphicSets, AreSoundSets}
use Rattle.vt_glyph.specs.Invocation.{sets_at_power_up}
use Rattle.vt_screen.specs.Grid.{at_or, is_within}
use Rattle.vt_screen.specs.Same.{when}
use Rattle.vt_screen.specs.declared.size.Size.{Size}
use Rattle.vt_term.specs.declared.state.Cursor.{Cursor}
use Rattle.vt_term.specs.State.{at_place, modes_at_power_up, stops_of, is_stop_at_power_up}
use Rattle.vt_feed.specs.Actions.{state_after}
use Rattle.vt_paint.specs.Controls.{private_mode}
use Rattle.vt_wide.specs.Edits.{is_parted, first_column, columns}
use Rattle.vt_wide.specs.Whole.{beside, Fit}
use Rattle.vt_xterm_cell.specs.declared.look.Look.{Look}
use Rattle.vt_xterm_cell.specs.Look.{plain_look}
use Rattle.vt_xterm_cell.specs.Words.{CellParts}
use Rattle.vt_xterm_cell.specs.Cells.{blank_cell, written_cell, is_second, second_cell}
use Rattle.vt_xterm_cell.specs.Wide.{xterm_wide}
use Rattle.vt_xterm_display.specs.Functions.{xterm, function_in, sequences}
use Rattle.vt_xterm_display.specs.Pages.{with_xterm_mode}
use Rattle.vt_xterm_display.specs.State.{Grid, XtermState, blank_page}
use Rattle.vt_xterm_display.specs.Rows.{incoming}
use Rattle.vt_xterm_display.specs.Tabs.{is_pending}
use Rattle.vt_xterm_display.specs.Writing.{with_grid, advanced, room}
use Rattle.vt_xterm_repaint.specs.Looks.{look_actions}
use Rattle.vt_xterm_repaint.specs.Cells.{mark_actions, glyph_actions}
use Rattle.vt_xterm_repaint.specs.Items.{functions, sets_item, margins_item, move_item, again_item, cursor_item, modes_item, settings_item, shift_item}
use Rattle.vt_xterm_repaint.specs.Repaint.{page_shown, first_actions, pages_actions, last_actions, repaint_actions}
use Rattle.vt_xterm_repaint.specs.Painted.{placed}
use Rattle.vt_xterm_repaint.proofs.Parts.{IsPage, AreMargins, IsCursor, HasParts}
use Rattle.vt_xterm_repaint.proofs.Rows.{after-append, graphic_parts}
use Rattle.vt_xterm_repaint.proofs.Selected.{look-selected}
use Rattle.vt_xterm_repaint.proofs.Pages.{begun, with_page, sets-effect}
use Rattle.vt_xterm_repaint.proofs.Chain.{pages-effect}
use Rattle.vt_xterm_repaint.proofs.Last.{placing, margins-made, origin-made, IsReached, move-made, modes-made, settings-made, resizes-made, shift-made}
use Rattle.vt_xterm_repaint.proofs.Again.{written_over, placed_same, character-written, write-over, marks-made}

-- ---- from any state to power-up

pub first-made : (s : XtermState) (width : ℕ) → s.shown.grid.size.narrow ≡ width → 1 ≤ width
    → state_after xterm first_actions s
    ≡ begun (stops_of s.shown.grid.size.wide) (blank_page s.shown.grid.size) false s.shown.grid.size s.shown.grid.size.narrow
unfolding function_in sequences with_xterm_mode
first-made s width is some =
    let col : min 1 s.shown.grid.size.narrow ≡ 1 = omega (arith, is, some) in
    rw col refl

-- ---- the cursor, with or without a pending wrap

-- a wrap that isn't pending
no_wrap : (a b : Bool) → (a || b) ≡ false → (a ≡ false) × (b ≡ false)
no_wrap true b is = absurd (false≢true (sym is))
no_wrap false b is = (refl, is)

module _ (w : XtermState) (m : AreMargins w) (c : IsCursor w) where
  abbrev o : Bool
  o = w.shown.modes.decom

  abbrev row : ℕ
  row = w.shown.cursor.row

  abbrev col : ℕ
  col = w.shown.cursor.col

  -- in the look of the character there, at the end
  abbrev ended : Look → XtermState
  ended look = placing w w.shown.cursor w.waits look o

  moved-made : (p : Cursor) → is_pending w ≡ false
      → state_after xterm (move_item w col) (placing w p false plain_look o) ≡ ended plain_look
  moved-made p none =
      let parts = no_wrap w.waits w.shown.cursor.wrap none in
      move-made w m o p false plain_look row col (record { row_in = c.row; col_in = c.col; rows = c.rows; columns = c.columns })
      ∙ ap (λ (x : Bool). placing w (record { row = row; col = col; wrap = x }) false plain_look o) (sym parts.1)
      ∙ ap (λ (x : Bool). placing w w.shown.cursor x plain_look o) (sym parts.0)

-- the first one of the columns of the character that ends in a column
pub record Ends (w : XtermState) (col f : ℕ) : Type 0 where
  from_1 : 1 ≤ f
  pub not_second : is_second (at_or blank_cell w.shown.grid w.shown.cursor.row f) ≡ false
  count : f + columns xterm_wide (at_or blank_cell w.shown.grid w.shown.cursor.row f) ≡ col + 1
  near : (f ≡ col) ⊎ ((f + 1 ≡ col) × (is_parted xterm_wide blank_cell w.shown.grid w.shown.cursor.row col ≡ true))
  wide : (at_or blank_cell w.shown.grid w.shown.cursor.row f).wide ≡ true
      → at_or blank_cell w.shown.grid w.shown.cursor.row (f + 1) ≡ second_cell (at_or blank_cell w.shown.grid w.shown.cursor.row f).look
  first_open : is_parted xterm_wide blank_cell w.shown.grid w.shown.cursor.row f ≡ false
  last_open : is_parted xterm_wide blank_cell w.shown.grid w.shown.cursor.row (col + 1) ≡ false

module _ (w : XtermState) (m : AreMargins w) (c : IsCursor w) (page : IsPage w.shown.grid) (pending : is_pending w ≡ true) where
  abbrev g : Grid
  g = w.shown.grid

  abbrev r : ℕ
  r = w.shown.cursor.row

  abbrev k : ℕ
  k = w.shown.cursor.col

  abbrev at : ℕ → CellParts
  at i = at_or blank_cell w.shown.grid w.shown.cursor.row i

  abbrev B : ℕ → CellParts
  B i = beside blank_cell w.shown.grid w.shown.cursor.row i

  inside : (i : ℕ) → 1 ≤ i → i ≤ w.shown.grid.width → B i ≡ at i
  inside i i1 iw =
      let here : is_within 1 w.shown.grid.width i ≡ true = grind (arith, nat_tests, i1, iw) in
      rw here refl

  outside : (i : ℕ) → w.shown.grid.width < i → is_second (B i) ≡ false
  outside i out =
      let there : is_within 1 w.shown.grid.width i ≡ false = grind (arith, nat_tests, out) in
      rw there refl

  fit : (i : ℕ) → i ≤ w.shown.grid.width → Fit xterm_wide (B i) (B (i + 1))
  fit i iw = page.whole.fit w.shown.cursor.row i c.row.0 c.row.1 iw

  -- a column whose cell isn't a second one isn't parted
  open_at : (i : ℕ) → is_second (B i) ≡ false → is_parted xterm_wide blank_cell w.shown.grid w.shown.cursor.row i ≡ false
  open_at i isnt = elim (leb_tells 2 i) [
    | inr a ↦ rw a.0 refl
    | inl a ↦ elim (leb_tells i w.shown.grid.width) [
      | inr b ↦ rw (a.0, b.0) refl
      | inl b ↦ rw (a.0, b.0) (ap is_second (sym (inside i (omega (arith, a.1)) b.1)) ∙ isnt)
    ]
  ]

  -- one of the two wraps is pending
  either : (w.shown.cursor.wrap ≡ true) ⊎ (w.waits ≡ true)
  either = go w.waits w.shown.cursor.wrap pending
    where
      go : (a b : Bool) → (a || b) ≡ true → (b ≡ true) ⊎ (a ≡ true)
      go true b is = inr refl
      go false b is = inl is

  -- a character that begins in the cursor's column is narrow
  narrow_here : (B w.shown.cursor.col).wide ≡ false
  narrow_here = go either (B w.shown.cursor.col).wide refl
    where
      go : (w.shown.cursor.wrap ≡ true) ⊎ (w.waits ≡ true) → (wide : Bool) → (B w.shown.cursor.col).wide ≡ wide → wide ≡ false
      go e false is = refl
      go (inl e) true is =
          let next : is_second (B (w.shown.cursor.col + 1)) ≡ true = sym (fit w.shown.cursor.col c.col.1).wide ∙ is in
          absurd (false≢true (sym (outside (w.shown.cursor.col + 1) (omega (arith, c.last e))) ∙ next))
      go (inr e) true is =
          let place = c.waiting e in
          let next : is_second (B (w.shown.cursor.col + 1)) ≡ true = sym (fit w.shown.cursor.col c.col.1).wide ∙ is in
          let two : nat_le 2 (w.shown.cursor.col + 1) ≡ true = grind (arith, nat_tests, c.col) in
          let in_row : nat_le (w.shown.cursor.col + 1) w.shown.grid.width ≡ true = grind (arith, nat_tests, place) in
          let second : is_second (at (w.shown.cursor.col + 1)) ≡ true =
          ap is_second (sym (inside (w.shown.cursor.col + 1) (omega arith) (omega (arith, place)))) ∙ next in
          let parts : is_parted xterm_wide blank_cell w.shown.grid w.shown.cursor.row (w.shown.cursor.col + 1) ≡ true = rw (two, in_row) second in
          let there : is_parted xterm_wide blank_cell w.shown.grid w.shown.cursor.row (w.sides.right + 1) ≡ true =
          subst (λ (i : ℕ). is_parted xterm_wide blank_cell w.shown.grid w.shown.cursor.row (i + 1) ≡ true) place.0 parts in
          absurd ((c.fits pending there).0 place.0)

  pub ends : Ends w w.shown.cursor.col (first_column xterm_wide blank_cell w.shown.grid w.shown.cursor.row w.shown.cursor.col)
  ends = go (is_parted xterm_wide blank_cell w.shown.grid w.shown.cursor.row w.shown.cursor.col) refl
    where
      behind : is_second (B (w.shown.cursor.col + 1)) ≡ false
      behind = sym (fit w.shown.cursor.col c.col.1).wide ∙ narrow_here

      go : (parts : Bool) → is_parted xterm_wide blank_cell w.shown.grid w.shown.cursor.row w.shown.cursor.col ≡ parts
          → Ends w w.shown.cursor.col (if is_parted xterm_wide blank_cell w.shown.grid w.shown.cursor.row w.shown.cursor.col then w.shown.cursor.col - 1 else w.shown.cursor.col)
      go true is =
          let two : 2 ≤ w.shown.cursor.col = grind (arith, nat_tests, is) in
          let back : w.shown.cursor.col - 1 + 1 ≡ w.shown.cursor.col = omega (arith, two) in
          let f : ℕ = w.shown.cursor.col - 1 in
          let here : B f ≡ at f = inside f (omega (arith, two)) (omega (arith, c.col)) in
          let second : is_second (B (f + 1)) ≡ true = ap (λ (i : ℕ). is_second (B i)) back ∙ ap is_second (inside w.shown.cursor.col c.col.0 c.col.1) ∙ grind (arith, nat_tests, is) in
          let wide : (B f).wide ≡ true = (fit f (omega (arith, c.col))).wide ∙ second in
          let is_wide : (at f).wide ≡ true = ap (λ (x : CellParts). x.wide) (sym here) ∙ wide in
          rw is (record {
            from_1 = omega (arith, two);
            not_second = rw is_wide refl;
            count = rw is_wide (omega (arith, two));
            near = inr (back, is);
            wide = λ h. sym (inside (f + 1) (omega arith) (omega (arith, c.col, two))) ∙ (fit f (omega (arith, c.col))).second wide
                ∙ ap (λ (x : CellParts). second_cell x.look) here;
            first_open = open_at f (ap is_second here ∙ rw is_wide refl);
            last_open = open_at (w.shown.cursor.col + 1) behind;
          })
      go false is =
          let here : B w.shown.cursor.col ≡ at w.shown.cursor.col = inside w.shown.cursor.col c.col.0 c.col.1 in
          let narrow : (at w.shown.cursor.col).wide ≡ false = ap (λ (x : CellParts). x.wide) (sym here) ∙ narrow_here in
          let not_second : is_second (at w.shown.cursor.col) ≡ false = first_kind is in
          rw is (record {
            from_1 = c.col.0;
            not_second = not_second;
            count = rw narrow refl;
            near = inl refl;
            wide = λ h. absurd (false≢true (sym narrow ∙ h));
            first_open = is;
            last_open = open_at (w.shown.cursor.col + 1) behind;
          })
        where
          first_kind : is_parted xterm_wide blank_cell w.shown.grid w.shown.cursor.row w.shown.cursor.col ≡ false → is_second (at w.shown.cursor.col) ≡ false
          first_kind isnt = elim (leb_tells 2 w.shown.cursor.col) [
            | inl a ↦
                let low : nat_le 2 w.shown.cursor.col ≡ true = a.0 in
                let high : nat_le w.shown.cursor.col w.shown.grid.width ≡ true = grind (arith, nat_tests, c.col) in
                both_on (nat_le 2 w.shown.cursor.col) (nat_le w.shown.cursor.col w.shown.grid.width) (is_second (at w.shown.cursor.col)) low high isnt
            | inr a ↦
                let one : 0 + 1 ≡ w.shown.cursor.col = omega (arith, a.1, c.col) in
                ap is_second (sym (inside w.shown.cursor.col c.col.0 c.col.1))
                ∙ ap (λ (i : ℕ). is_second (B i)) (sym one) ∙ sym (fit 0 (omega arith)).wide
          ]
            where
              both_on : (x y z : Bool) → x ≡ true → y ≡ true → (x && (y && z)) ≡ false → z ≡ false
              both_on true true z a b h = h
              both_on false y z a b h = absurd (false≢true a)
              both_on true false z a b h = absurd (false≢true b)

  -- ---- the character is written once more

  abbrev F : ℕ
  F = first_column xterm_wide blank_cell w.shown.grid w.shown.cursor.row w.shown.cursor.col

  abbrev x : CellParts
  x = at_or blank_cell w.shown.grid w.shown.cursor.row (first_column xterm_wide blank_cell w.shown.grid w.shown.cursor.row w.shown.cursor.col)

  abbrev here : Cursor → XtermState
  here p = placing w p false x.look w.shown.modes.decom

  one_or_two : (wide : Bool) → (1 ≤ (if wide then 2 else 1)) × ((if wide then 2 else 1) ≤ 2)
  one_or_two true = (omega arith, omega arith)
  one_or_two false = (omega arith, omega arith)

  some : (1 ≤ columns xterm_wide x) × (columns xterm_wide x ≤ 2)
  some = one_or_two x.wide

  pub bounds : (1 ≤ F) × (F ≤ w.shown.cursor.col)
  bounds = (ends.from_1, omega (arith, ends.count, some))

  -- under DECOM the cursor is at the right margin
  at_right : w.shown.modes.decom ≡ true → w.shown.cursor.col ≡ w.sides.right
  at_right origin = go either
    where
      go : (w.shown.cursor.wrap ≡ true) ⊎ (w.waits ≡ true) → w.shown.cursor.col ≡ w.sides.right
      go (inl e) = omega (arith, c.last e, c.columns origin, m.sides.to_last_column)
      go (inr e) = (c.waiting e).0

  there : IsReached w m w.shown.modes.decom w.shown.cursor.row F
  there = record {
    row_in = c.row;
    col_in = (bounds.0, omega (arith, bounds, c.col));
    rows = c.rows;
    columns = λ origin. (omega (arith, at_right origin, ends.count, some, m.sides.two_columns), omega (arith, bounds, c.columns origin));
  }

  -- the last column that the cursor reaches there is that of the pending wrap
  reached : (if nat_le F w.sides.right then w.sides.right else w.shown.grid.width) ≡ w.shown.cursor.col
  reached = elim (leb_tells F w.sides.right) [
    | inl h ↦ rw h.0 (inner either h.1)
    | inr h ↦ rw h.0 (outer either h.1)
  ]
    where
      inner : (w.shown.cursor.wrap ≡ true) ⊎ (w.waits ≡ true) → F ≤ w.sides.right → w.sides.right ≡ w.shown.cursor.col
      inner (inr e) low = sym (c.waiting e).0
      inner (inl e) low = elim (leb_tells w.shown.grid.width w.sides.right) [
        | inl h ↦ omega (arith, h.1, m.sides.to_last_column, c.last e)
        | inr h ↦ by ends.near h.1
      ]
        where
          by : (F ≡ w.shown.cursor.col) ⊎ ((F + 1 ≡ w.shown.cursor.col) × (is_parted xterm_wide blank_cell w.shown.grid w.shown.cursor.row w.shown.cursor.col ≡ true))
              → w.sides.right < w.shown.grid.width → w.sides.right ≡ w.shown.cursor.col
          by (inl is) past = absurd (omega (arith, c.last e, is, low, past))
          by (inr is) past =
              let next : w.shown.cursor.col ≡ w.sides.right + 1 = omega (arith, is.0, low, c.last e, past) in
              let parts : is_parted xterm_wide blank_cell w.shown.grid w.shown.cursor.row (w.sides.right + 1) ≡ true =
              subst (λ (i : ℕ). is_parted xterm_wide blank_cell w.shown.grid w.shown.cursor.row i ≡ true) next is.1 in
              absurd ((c.fits pending parts).1 next)

      outer : (w.shown.cursor.wrap ≡ true) ⊎ (w.waits ≡ true) → w.sides.right < F → w.shown.grid.width ≡ w.shown.cursor.col
      outer (inl e) high = sym (c.last e)
      outer (inr e) high = absurd (omega (arith, (c.waiting e).0, bounds, high))

  -- behind it a wrap is pending as before
  wraps : (w.shown.cursor.col == w.shown.grid.width) ≡ w.shown.cursor.wrap
  wraps = go w.shown.cursor.wrap refl either
    where
      go : (b : Bool) → w.shown.cursor.wrap ≡ b → (w.shown.cursor.wrap ≡ true) ⊎ (w.waits ≡ true) → (w.shown.cursor.col == w.shown.grid.width) ≡ b
      go true is e = grind (arith, nat_tests, c.last is)
      go false is (inl e) = absurd (false≢true (sym is ∙ e))
      go false is (inr e) = grind (arith, nat_tests, c.waiting e)

  waits : nat_lt w.shown.cursor.col w.shown.grid.width ≡ w.waits
  waits = go w.waits refl either
    where
      go : (b : Bool) → w.waits ≡ b → (w.shown.cursor.wrap ≡ true) ⊎ (w.waits ≡ true) → nat_lt w.shown.cursor.col w.shown.grid.width ≡ b
      go true is e = grind (arith, nat_tests, c.waiting is)
      go false is (inr e) = absurd (false≢true (sym is ∙ e))
      go false is (inl e) = grind (arith, nat_tests, c.last e)

  behind-made : advanced (columns xterm_wide x) (here (at_place w.shown.cursor.row F)) ≡ placing w w.shown.cursor w.waits x.look w.shown.modes.decom
  behind-made =
      let past : nat_le (F + columns xterm_wide x) w.shown.cursor.col ≡ false = grind (arith, nat_tests, ends.count) in
      rw (reached, past, wraps, waits) refl

  roomy : nat_le (columns xterm_wide x) (room w.sides (here (at_place w.shown.cursor.row F)).shown) ≡ true
  roomy =
      let fits : nat_le (columns xterm_wide x) (w.shown.cursor.col - F + 1) ≡ true = grind (arith, nat_tests, ends.count) in
      rw reached fits

  glyph-made : state_after xterm (glyph_actions x) (here (at_place w.shown.cursor.row F)) ≡ placing w w.shown.cursor w.waits x.look w.shown.modes.decom
  glyph-made =
      let s0 = here (at_place w.shown.cursor.row F) in
      let y = placing w w.shown.cursor w.waits x.look w.shown.modes.decom in
      let base = written_cell x.look x.character x.wide in
      let shown = page.shown w.shown.cursor.row F c.row.0 c.row.1 bounds.0 (omega (arith, bounds, c.col)) in
      let parts = graphic_parts x.character x.mark x.other_mark x.wide ends.not_second shown in
      let open_end : is_parted xterm_wide blank_cell w.shown.grid w.shown.cursor.row (F + columns xterm_wide x) ≡ false =
      subst (λ (i : ℕ). is_parted xterm_wide blank_cell w.shown.grid w.shown.cursor.row i ≡ false) (sym ends.count) ends.last_open in
      let marks = mark_actions x.mark ++ mark_actions x.other_mark in
      let P : CellParts → Grid = λ z. placed xterm_wide blank_cell w.shown.grid w.shown.cursor.row F z in
      ap (λ (s : XtermState). state_after xterm marks s)
      (character-written s0 x.character x.wide parts.0
      ∙ write-over s0 base (P base) refl roomy refl
      (written_over xterm_wide blank_cell (incoming s0.shown) base w.shown.grid w.shown.cursor.row F page.grid ends.first_open open_end)
      ∙ ap (with_grid (P base)) behind-made)
      ∙ marks-made y w.shown.grid w.shown.cursor.row F c.row.0 c.row.1 bounds.0 refl x.look x.character x.mark x.other_mark x.wide
      (omega (arith, ends.count, c.col)) ends.not_second parts.1 (pending_column ∙ omega (arith, ends.count))
      ∙ ap (λ (h : Grid). with_grid h y) (placed_same xterm_wide blank_cell w.shown.grid w.shown.cursor.row F page.grid ends.wide)
    where
      pending_column : (if is_pending w || w.shown.cursor.col == 1 then w.shown.cursor.col else w.shown.cursor.col - 1) ≡ w.shown.cursor.col
      pending_column = rw pending refl

  pub again-made : (p : Cursor)
      → state_after xterm (again_item w w.shown.cursor.col) (placing w p false plain_look w.shown.modes.decom)
      ≡ placing w w.shown.cursor w.waits x.look w.shown.modes.decom
  again-made p =
      let has = page.colours w.shown.cursor.row F c.row.0 c.row.1 bounds.0 (omega (arith, bounds, c.col)) in
      ap (λ (s : XtermState). state_after xterm (look_actions x.look ++ glyph_actions x) s)
      (move-made w m w.shown.modes.decom p false plain_look w.shown.cursor.row F there)
      ∙ after-append (look_actions x.look) (glyph_actions x) (placing w (at_place w.shown.cursor.row F) false plain_look w.shown.modes.decom)
      ∙ ap (λ (s : XtermState). state_after xterm (glyph_actions x) s)
      (look-selected x.look (placing w (at_place w.shown.cursor.row F) false plain_look w.shown.modes.decom) has)
      ∙ glyph-made

-- ---- all of it

-- the sets without a pending single shift
abbrev unshifted : GraphicSets → GraphicSets
unshifted sets = record sets { pending = None }

unshifted_sound : (sets : GraphicSets) → AreSoundSets sets → AreSoundSets (unshifted sets)
unshifted_sound sets sound = record { four = sound.four; left = sound.left; right = sound.right; pending = search rules }

power_up_sound : AreSoundSets sets_at_power_up
power_up_sound = record { four = refl; left = omega arith; right = (omega arith, omega arith); pending = search rules }

module _ (w : XtermState) (can : HasParts w) where
  abbrev with_cursor : Look → XtermState
  with_cursor look = placing w w.shown.cursor w.waits look w.shown.modes.decom

  -- the look in which the cursor is left
  record Placed (s : XtermState) : Type 0 where
    left : Look
    is : s ≡ with_cursor left

  cursor-made : (p : Cursor) → Placed (state_after xterm (cursor_item w) (placing w p false plain_look w.shown.modes.decom))
  unfolding cursor_item
  cursor-made p = go (is_pending w) refl
    where
      go : (pending : Bool) → is_pending w ≡ pending
          → Placed (state_after xterm (if is_pending w then again_item w w.shown.cursor.col else move_item w w.shown.cursor.col)
          (placing w p false plain_look w.shown.modes.decom))
      go true is = rw is (record { left = _; is = again-made w can.margins can.cursor can.pages.shown.cells is p })
      go false is = rw is (record { left = plain_look; is = moved-made w can.margins can.cursor p is })

  not_pending : w.shown.modes.decawm ≡ false → (w.shown.cursor.wrap ≡ false) × (w.waits ≡ false)
  not_pending off = go w.waits w.shown.cursor.wrap refl
    where
      go : (a b : Bool) → (a || b) ≡ is_pending w → (b ≡ false) × (a ≡ false)
      go false false is = (refl, refl)
      go true b is = absurd (false≢true (sym off ∙ can.wraps (sym is)))
      go false true is = absurd (false≢true (sym off ∙ can.wraps (sym is)))

  -- from where the cursor is placed
  rest-made : (left : Look)
      → state_after xterm (look_actions w.shown.brush ++ (sets_item sets_at_power_up w.shown.sets ++ (modes_item w.shown.modes
      ++ (settings_item w.settings ++ (when (not w.resizes) (functions (private_mode 40 false ∷ [])) ++ shift_item w.shown.sets.pending))))) (with_cursor left) ≡ w
  unfolding sets_item
  rest-made left =
      let sets = w.shown.sets in
      let e5 = shift_item sets.pending in
      let e4 = when (not w.resizes) (functions (private_mode 40 false ∷ [])) ++ e5 in
      let e3 = settings_item w.settings ++ e4 in
      let e2 = modes_item w.shown.modes ++ e3 in
      let e1 = sets_item sets_at_power_up sets ++ e2 in
      let s1 = with_cursor w.shown.brush in
      let s2 = record s1 { shown = record s1.shown { sets = unshifted sets } } in
      let s3 = record s2 { shown = record s2.shown { modes = w.shown.modes } } in
      let s4 = record s3 { settings = w.settings } in
      let s5 = record s4 { resizes = w.resizes } in
      after-append (look_actions w.shown.brush) e1 (with_cursor left)
      ∙ ap (λ (s : XtermState). state_after xterm e1 s) (look-selected w.shown.brush (with_cursor left) can.look)
      ∙ after-append (sets_item sets_at_power_up sets) e2 s1
      ∙ ap (λ (s : XtermState). state_after xterm e2 s)
      (sets-effect s1 sets_at_power_up (unshifted sets) power_up_sound (unshifted_sound sets can.sets) refl refl)
      ∙ after-append (modes_item w.shown.modes) e3 s2
      ∙ ap (λ (s : XtermState). state_after xterm e3 s)
      (modes-made s2 (record modes_at_power_up { decom = w.shown.modes.decom }) w.shown.modes refl (λ off. (not_pending off).0) (λ off. (not_pending off).1))
      ∙ after-append (settings_item w.settings) e4 s3
      ∙ ap (λ (s : XtermState). state_after xterm e4 s) (settings-made s3 w.settings)
      ∙ after-append (when (not w.resizes) (functions (private_mode 40 false ∷ []))) e5 s4
      ∙ ap (λ (s : XtermState). state_after xterm e5 s) (resizes-made s4 w.resizes)
      ∙ shift-made s5 (unshifted sets) sets.pending can.sets.pending refl

  last-made : state_after xterm (last_actions w) (with_page w.shown.stops w.other w.alternate (page_shown w)) ≡ w
  unfolding last_actions
  last-made =
      let o = w.shown.modes.decom in
      let e4 = look_actions w.shown.brush ++ (sets_item sets_at_power_up w.shown.sets ++ (modes_item w.shown.modes
      ++ (settings_item w.settings ++ (when (not w.resizes) (functions (private_mode 40 false ∷ [])) ++ shift_item w.shown.sets.pending)))) in
      let e3 = cursor_item w ++ e4 in
      let e2 = when o (functions (private_mode 6 true ∷ [])) ++ e3 in
      let p : Cursor = if o then at_place w.shown.margins.top w.sides.left else at_place 1 1 in
      let placed = cursor-made p in
      after-append (margins_item w) e2 (with_page w.shown.stops w.other w.alternate (page_shown w))
      ∙ ap (λ (s : XtermState). state_after xterm e2 s) (margins-made w can.margins)
      ∙ after-append (when o (functions (private_mode 6 true ∷ []))) e3 (placing w (at_place 1 1) false plain_look false)
      ∙ ap (λ (s : XtermState). state_after xterm e3 s) (origin-made w can.margins o)
      ∙ after-append (cursor_item w) e4 (placing w p false plain_look o)
      ∙ ap (λ (s : XtermState). state_after xterm e4 s) placed.is
      ∙ rest-made placed.left

stops-long : (n : ℕ) → length (stops_of n) ≡ n
unfolding stops_of
stops-long n = length-map-range_with_len is_stop_at_power_up 1 n

-- the actions of a repaint make its state from any state of its size
pub repaint-made : (w : XtermState) → HasParts w → (s : XtermState) → s.shown.grid.size ≡ w.shown.grid.size
    → state_after xterm (repaint_actions w) s ≡ w
unfolding repaint_actions
repaint-made w can s size =
    let z = w.shown.grid.size in
    after-append first_actions (pages_actions w ++ last_actions w) s
    ∙ ap (λ (x : XtermState). state_after xterm (pages_actions w ++ last_actions w) x)
    (first-made s s.shown.grid.size.narrow refl (subst (λ (y : Size). 1 ≤ y.narrow) (sym size) can.pages.narrow.some)
    ∙ ap (λ (y : Size). begun (stops_of y.wide) (blank_page y) false y y.narrow) size)
    ∙ after-append (pages_actions w) (last_actions w) (begun (stops_of z.wide) (blank_page z) false z z.narrow)
    ∙ ap (λ (x : XtermState). state_after xterm (last_actions w) x) (pages-effect w can.pages (stops-long z.wide))
    ∙ last-made w can
