-- A character is written once more, over itself, which makes a wrap pending.
use Rattle.std.proofs.Common.{◌≡◌, inl, inr, ℕ, ◌+◌, ◌-◌, ◌≤◌, Bool, true, false, Option, ◌++◌, arith, refl, sym, ap, ◌∙◌, subst}
use Rattle.std.specs.Prelude.{nat_le, nat_lt, ◌==◌, ◌&&◌, ◌||◌, ◌⊎◌, not, if◌then◌else◌}
use Rattle.std.proofs.lemmas.Bool.{false≢true}
use Rattle.std.proofs.lemmas.Bool.Decides.{nat_tests, eqb_tells}
use lib.Utf8.{scalar}
use Rattle.vt_glyph.specs.GraphicSets.{GraphicSets}
use Rattle.vt_glyph.specs.Invocation.{sets_at_power_up, glyph_read}
use Rattle.vt_glyph.proofs.Reading.{glyph_read-plain, after_read-plain}
use Rattle.vt_screen.specs.Grid.{GridOf, IsGrid, at_or, put_any, is_within}
use Rattle.vt_screen.proofs.Places.{grid_of-same, grid_of-cell_at}
use Rattle.vt_utf8.specs.Cells.{cells}
use Rattle.vt_feed.specs.Actions.{Character, state_after}
use Rattle.vt_wide.specs.Kinds.{WideOf}
use Rattle.vt_wide.specs.Edits.{is_parted, parted_row, parted_twice, columns, written, joined, joined_column}
use Rattle.vt_wide.proofs.Parting.{parted_else}
use Rattle.vt_xterm_cell.specs.declared.look.Look.{Look}
use Rattle.vt_xterm_cell.specs.Words.{CellParts}
use Rattle.vt_xterm_cell.specs.Cells.{blank_cell, written_cell, is_second, marked}
use Rattle.vt_xterm_cell.specs.Characters.{has_columns, is_mark, is_mark_or_none, are_marks}
use Rattle.vt_xterm_cell.specs.Wide.{xterm_wide, xterm_halves}
use Rattle.vt_xterm_display.specs.Functions.{xterm}
use Rattle.vt_xterm_display.specs.State.{on_shown, Grid, XtermState}
use Rattle.vt_xterm_display.specs.Rows.{incoming}
use Rattle.vt_xterm_display.specs.Tabs.{is_pending}
use Rattle.vt_xterm_display.specs.Writing.{write, after_wrap, put_if_room, put, print, write_character, write_of_width, write_if_read, with_grid, advanced, room}
use Rattle.vt_xterm_repaint.specs.Cells.{character_action, mark_actions}
use Rattle.vt_xterm_repaint.specs.Painted.{placed}
use Rattle.vt_xterm_repaint.proofs.Painted.{joined_placed, mark_column}

-- ---- grids

module _ {C : Type 0} (k : WideOf C) (z : C) where
  -- where nothing is parted, a character is written as it is placed
  pub written_over : (e cell : C) (g : GridOf C) (row col : ℕ) → IsGrid g → is_parted k z g row col ≡ false
      → is_parted k z g row (col + columns k cell) ≡ false → written k z e g row col cell ≡ placed k z g row col cell
  written_over e cell g row col grid first last = go (k.is_wide cell) refl
    where
      none : (at : ℕ) → is_parted k z g row at ≡ false → parted_row k z (λ x. e) g row at ≡ g
      none at is = sym (parted_else k z (λ x. e) g row at is grid)

      twice : (end : ℕ) → is_parted k z g row end ≡ false → parted_twice k z (λ x. e) g row col end ≡ g
      twice end is = ap (λ (h : GridOf C). parted_row k z (λ x. e) h row end) (none col first) ∙ none end is

      go : (wide : Bool) → k.is_wide cell ≡ wide → (if wide
          then put_any z (put_any z (parted_twice k z (λ x. e) g row col (col + 2)) row col cell) row (col + 1) (k.second cell)
          else put_any z (parted_twice k z (λ x. e) g row col (col + 1)) row col cell)
          ≡ (if wide then put_any z (put_any z g row col cell) row (col + 1) (k.second cell) else put_any z g row col cell)
      go true is = ap (λ (h : GridOf C). put_any z (put_any z h row col cell) row (col + 1) (k.second cell))
          (twice (col + 2) (subst (λ (w : Bool). is_parted k z g row (col + (if w then 2 else 1)) ≡ false) is last))
      go false is = ap (λ (h : GridOf C). put_any z h row col cell)
          (twice (col + 1) (subst (λ (w : Bool). is_parted k z g row (col + (if w then 2 else 1)) ≡ false) is last))

  put_same : (g : GridOf C) (row col : ℕ) (x : C) → IsGrid g → at_or z g row col ≡ x → put_any z g row col x ≡ g
  put_same g row col x grid is = grid_of-same g.size g.width _ (at_or z g) (λ r c r1 rh c1 cw. elim (eqb_tells r row) [
    | inl e ↦ elim (eqb_tells c col) [
      | inl f ↦ rw (e.0, f.0) (sym is ∙ ap (λ y. at_or z g y col) (sym e.1) ∙ ap (at_or z g r) (sym f.1))
      | inr f ↦ rw (e.0, f.0) (ap (λ y. at_or z g y c) (sym e.1))
    ]
    | inr e ↦ rw e.0 refl
  ]) ∙ grid_of-cell_at z g grid.cells

  -- a grid's own character
  pub placed_same : (g : GridOf C) (row col : ℕ) → IsGrid g
      → (k.is_wide (at_or z g row col) ≡ true → at_or z g row (col + 1) ≡ k.second (at_or z g row col))
      → placed k z g row col (at_or z g row col) ≡ g
  placed_same g row col grid second = go (k.is_wide (at_or z g row col)) refl
    where
      go : (wide : Bool) → k.is_wide (at_or z g row col) ≡ wide
          → (if wide then put_any z (put_any z g row col (at_or z g row col)) row (col + 1) (k.second (at_or z g row col))
          else put_any z g row col (at_or z g row col)) ≡ g
      go true is = ap (λ (h : GridOf C). put_any z h row (col + 1) (k.second (at_or z g row col))) (put_same g row col (at_or z g row col) grid refl)
          ∙ put_same g row (col + 1) (k.second (at_or z g row col)) grid (second is)
      go false is = put_same g row col (at_or z g row col) grid refl

-- ---- characters in any state that reads ASCII as it is

by_either : (a b x y e : Bool) → ((a && b) || (x && (y && e))) ≡ true → ((a ≡ true) × (b ≡ true)) ⊎ ((x ≡ true) × (e ≡ true))
by_either true true x y e is = inl (refl, refl)
by_either true false true true true is = inr (refl, refl)
by_either false b true true true is = inr (refl, refl)
by_either true false true true false is = absurd (false≢true is)
by_either true false true false e is = absurd (false≢true is)
by_either true false false y e is = absurd (false≢true is)
by_either false b true true false is = absurd (false≢true is)
by_either false b true false e is = absurd (false≢true is)
by_either false b false y e is = absurd (false≢true is)

-- a state with these sets
abbrev reading : XtermState → XtermState
reading b = record b { shown = record b.shown { sets = sets_at_power_up; modes = record b.shown.modes { decawm = true } } }

module _ (b : XtermState) where
  letter : (ch : ℕ) → 0x20 ≤ ch → ch ≤ 0x7E → print ch (reading b) ≡ write (written_cell b.shown.brush ch false) (reading b)
  letter ch low high =
      ap (λ (x : GraphicSets). write_if_read (glyph_read sets_at_power_up ch) (on_shown (λ d. record d { sets = x }) (reading b)))
      (after_read-plain sets_at_power_up ch refl low high)
      ∙ ap (λ (o : Option ℕ). write_if_read o (reading b)) (glyph_read-plain sets_at_power_up ch (refl, refl) low high)

  other : (ch : ℕ) (wide : Bool) → cells ch ≡ (if wide then 2 else 1)
      → write_character ch (reading b) ≡ write (written_cell b.shown.brush ch wide) (reading b)
  other ch true is = ap (λ n. write_of_width n ch (reading b)) is
  other ch false is = ap (λ n. write_of_width n ch (reading b)) is

  pub character-written : (ch : ℕ) (wide : Bool) → has_columns ch wide ≡ true
      → xterm.effect (character_action ch) (reading b) ≡ write (written_cell b.shown.brush ch wide) (reading b)
  unfolding has_columns
  character-written ch wide is =
      go (by_either (is_within 0x20 0x7E ch) (not wide) (nat_le 0xA0 ch) (scalar ch) (cells ch == (if wide then 2 else 1)) is)
    where
      off : (w : Bool) → not w ≡ true → w ≡ false
      off false h = refl
      off true h = absurd (false≢true h)

      go : ((is_within 0x20 0x7E ch ≡ true) × (not wide ≡ true)) ⊎ ((nat_le 0xA0 ch ≡ true) × ((cells ch == (if wide then 2 else 1)) ≡ true))
          → xterm.effect (character_action ch) (reading b) ≡ write (written_cell b.shown.brush ch wide) (reading b)
      go (inl h) =
          let ascii : nat_lt ch 0x80 ≡ true = grind (arith, nat_tests, h.0) in
          let narrow : wide ≡ false = off wide h.1 in
          rw (ascii, narrow) (letter ch (grind (arith, nat_tests, h.0)) (grind (arith, nat_tests, h.0)))
      go (inr h) =
          let beyond : nat_lt ch 0x80 ≡ false = grind (arith, nat_tests, h.0) in
          rw beyond (other ch wide (grind (arith, nat_tests, h.1)))

wrap_none : (s : XtermState) → is_pending s ≡ false → after_wrap s ≡ s
unfolding after_wrap
wrap_none s none = rw none refl

room_some : (cell : CellParts) (s : XtermState) → nat_le (columns xterm_wide cell) (room s.sides s.shown) ≡ true → put_if_room cell s ≡ put cell s
unfolding put_if_room
room_some cell s fits = rw fits refl

put_over : (cell : CellParts) (s : XtermState) → s.shown.modes.irm ≡ false
    → put cell s ≡ with_grid (written xterm_wide blank_cell (incoming s.shown) s.shown.grid s.shown.cursor.row s.shown.cursor.col cell)
    (advanced (columns xterm_wide cell) s)
unfolding put
put_over cell s over = rw over refl

-- a character that has room, where nothing is inserted
pub write-over : (s : XtermState) (cell : CellParts) (g : Grid) → is_pending s ≡ false → nat_le (columns xterm_wide cell) (room s.sides s.shown) ≡ true
    → s.shown.modes.irm ≡ false
    → written xterm_wide blank_cell (incoming s.shown) s.shown.grid s.shown.cursor.row s.shown.cursor.col cell ≡ g
    → write cell s ≡ with_grid g (advanced (columns xterm_wide cell) s)
unfolding write
write-over s cell g none fits over is =
    ap (put_if_room cell) (wrap_none s none) ∙ room_some cell s fits ∙ put_over cell s over
    ∙ ap (λ (h : Grid). with_grid h (advanced (columns xterm_wide cell) s)) is

-- ---- marks, behind a character

no_cells : (m : ℕ) → is_mark m ≡ true → cells m ≡ 0
unfolding is_mark
no_cells m is = is_zero (cells m) _ is
  where
    is_zero : (n : ℕ) (y : Bool) → (n == 0 && y) ≡ true → n ≡ 0
    is_zero n y h = grind (arith, nat_tests, h)

module _ (y : XtermState) (g : Grid) (row col : ℕ) (r1 : 1 ≤ row) (rh : row ≤ g.size.rows) (c1 : 1 ≤ col) (in_row : y.shown.cursor.row ≡ row) where
  abbrev Y : Grid → XtermState
  Y h = record y { shown = record y.shown { grid = h } }

  abbrev P : CellParts → Grid
  P x = placed xterm_wide blank_cell g row col x

  pub mark-made : (x : CellParts) (m : ℕ) → col + columns xterm_wide x ≤ g.width + 1 → is_second x ≡ false → is_mark m ≡ true
      → (if is_pending y || y.shown.cursor.col == 1 then y.shown.cursor.col else y.shown.cursor.col - 1) ≡ col + columns xterm_wide x - 1
      → xterm.effect (Character m) (Y (P x)) ≡ Y (P (marked x m))
  mark-made x m fits first is there =
      ap (λ w. write_of_width w m (Y (P x))) (no_cells m is)
      ∙ ap Y (ap (λ (r : ℕ). joined xterm_wide blank_cell (P x) r (joined_column xterm_wide blank_cell (P x) r y.shown.cursor.col (is_pending y)) m) in_row
      ∙ ap (λ (at : ℕ). joined xterm_wide blank_cell (P x) row at m)
      (mark_column xterm_wide blank_cell xterm_halves g row col x (is_pending y) y.shown.cursor.col r1 rh c1 fits first there)
      ∙ joined_placed xterm_wide blank_cell xterm_halves g row col x m r1 rh c1 (omega (arith, fits, some x.wide)))
    where
      some : (w : Bool) → 1 ≤ (if w then 2 else 1)
      some true = omega arith
      some false = omega arith

  pub marks-made : (look : Look) (ch m o : ℕ) (wide : Bool) → col + (if wide then 2 else 1) ≤ g.width + 1 → (not wide && ch == 0) ≡ false
      → are_marks m o ≡ true
      → (if is_pending y || y.shown.cursor.col == 1 then y.shown.cursor.col else y.shown.cursor.col - 1) ≡ col + (if wide then 2 else 1) - 1
      → state_after xterm (mark_actions m ++ mark_actions o) (Y (P (written_cell look ch wide)))
      ≡ Y (P (record { character = ch; mark = m; other_mark = o; wide = wide; look = look }))
  unfolding is_mark_or_none
  marks-made look ch m o wide fits first are there = marks (m == 0) refl (o == 0) refl
    where
      cell : ℕ → ℕ → CellParts
      cell i j = record { character = ch; mark = i; other_mark = j; wide = wide; look = look }

      after : CellParts → XtermState
      after x = Y (P x)

      one : (i j n : ℕ) → is_mark n ≡ true → xterm.effect (Character n) (after (cell i j)) ≡ after (marked (cell i j) n)
      one i j n is = mark-made (cell i j) n fits first is there

      is_one : (n : ℕ) → (n == 0) ≡ false → is_mark_or_none n ≡ true → is_mark n ≡ true
      is_one n none is = grind (arith, nat_tests, none, is)

      first_mark : (n : ℕ) → is_mark n ≡ true → marked (cell 0 0) n ≡ cell n 0
      first_mark n is = rw (first, is) refl

      second_mark : (i n : ℕ) → (i == 0) ≡ false → is_mark n ≡ true → marked (cell i 0) n ≡ cell i n
      second_mark i n some is = rw (first, is, some) refl

      marks : (x : Bool) → (m == 0) ≡ x → (u : Bool) → (o == 0) ≡ u
          → state_after xterm (mark_actions m ++ mark_actions o) (after (cell 0 0)) ≡ after (cell m o)
      marks true mz true oz =
          let m0 : 0 ≡ m = grind (arith, nat_tests, mz) in
          let o0 : 0 ≡ o = grind (arith, nat_tests, oz) in
          rw (mz, oz) (ap (λ i. after (cell i 0)) m0 ∙ ap (λ j. after (cell m j)) o0)
      marks false mz true oz =
          let o0 : 0 ≡ o = grind (arith, nat_tests, oz) in
          let is : is_mark m ≡ true = is_one m mz (grind (arith, nat_tests, are)) in
          rw (mz, oz) (one 0 0 m is ∙ ap after (first_mark m is) ∙ ap (λ j. after (cell m j)) o0)
      marks false mz false oz =
          let is : is_mark m ≡ true = is_one m mz (grind (arith, nat_tests, are)) in
          let also : is_mark o ≡ true = is_one o oz (grind (arith, nat_tests, are)) in
          rw (mz, oz) (ap (λ (s : XtermState). xterm.effect (Character o) s) (one 0 0 m is ∙ ap after (first_mark m is))
          ∙ one m 0 o also ∙ ap after (second_mark m o mz also))
      marks true mz false oz = absurd (false≢true (grind (arith, nat_tests, are, mz, oz)))
