-- Writing the cells of a page, on a state that is otherwise as at power-up.
use Rattle.std.proofs.Common.{◌≡◌, inl, inr, ℕ, ◌+◌, ◌-◌, ◌≤◌, Bool, true, false, Option, List, ◌++◌, arith, refl, ap, ◌∙◌}
use Rattle.std.specs.Prelude.{nat_le, nat_lt, ◌==◌, ◌&&◌, ◌||◌, ◌⊎◌, not, if◌then◌else◌}
use Rattle.std.proofs.lemmas.Bool.{false≢true}
use Rattle.std.proofs.lemmas.Bool.Decides.{nat_tests, leb_tells}
use Rattle.vt_glyph.specs.GraphicSets.{GraphicSets}
use Rattle.vt_glyph.specs.Invocation.{sets_at_power_up, glyph_read}
use Rattle.vt_glyph.proofs.Reading.{glyph_read-plain, after_read-plain}
use Rattle.vt_feed.specs.Actions.{Character, state_after}
use lib.Utf8.{scalar}
use Rattle.vt_screen.specs.Grid.{IsGrid, is_within}
use Rattle.vt_term.specs.declared.state.Cursor.{Cursor}
use Rattle.vt_term.specs.declared.state.SavedOf.{SavedOf}
use Rattle.vt_term.specs.State.{at_place, margins_of, modes_at_power_up}
use Rattle.vt_utf8.specs.Cells.{cells}
use Rattle.vt_wide.specs.Edits.{columns, joined, joined_column}
use Rattle.vt_xterm_cell.specs.declared.look.Look.{Look}
use Rattle.vt_xterm_cell.specs.Words.{CellParts}
use Rattle.vt_xterm_cell.specs.Cells.{blank_cell, written_cell, is_second, marked}
use Rattle.vt_xterm_cell.specs.Characters.{has_columns, is_mark, is_mark_or_none, are_marks}
use Rattle.vt_xterm_cell.specs.Wide.{xterm_wide, xterm_halves}
use Rattle.vt_xterm_display.specs.Functions.{xterm}
use Rattle.vt_xterm_display.specs.State.{on_shown, Grid, PageState, XtermState, full_sides, settings_at_power_up}
use Rattle.vt_xterm_display.specs.Rows.{incoming}
use Rattle.vt_xterm_display.specs.Writing.{write, after_wrap, put_if_room, put, print, write_character, write_of_width, write_if_read, cursor_at, waits_at}
use Rattle.vt_xterm_repaint.specs.Cells.{character_action, mark_actions, glyph_actions}
use Rattle.vt_xterm_repaint.specs.Painted.{painted, placed}
use Rattle.vt_xterm_repaint.proofs.Painted.{written_behind, joined_placed, mark_column}

-- what the cells of a page leave as it is: the page has the shape of a grid
pub record Common : Type 0 where
  pub shape : Grid
  pub stops : List Bool
  pub saved : SavedOf Look
  pub other : PageState
  pub alternate : Bool

-- with these cells, cursor and look, and all else as at power-up, but for ?40
abbrev pub drawn : Common → Grid → Cursor → Look → XtermState
drawn c g cursor look = record {
  shown = record {
    grid = g;
    cursor = cursor;
    brush = look;
    sets = sets_at_power_up;
    margins = margins_of c.shape.size;
    stops = c.stops;
    modes = modes_at_power_up;
    saved = c.saved;
  };
  other = c.other;
  sides = full_sides c.shape.width;
  bounded = false;
  waits = false;
  alternate = c.alternate;
  resizes = true;
  settings = settings_at_power_up;
}

-- behind a column
abbrev pub behind : Grid → ℕ → ℕ → Cursor
behind t row col = cursor_at row (col + 1) t.width t.width true

-- no wrap is pending left of the last column
no_wait : (col w : ℕ) → waits_at col w w true ≡ false
no_wait col w = go (nat_le col w)
  where
    before : nat_lt w w ≡ false
    before = grind (arith, nat_tests)

    go : (x : Bool) → (if x then false else nat_lt w w) ≡ false
    go true = refl
    go false = before

module _ (c : Common) (grid : IsGrid c.shape) where
  -- a character that has room
  pub write-behind : (row col : ℕ) (look : Look) (cell : CellParts) → 1 ≤ row → row ≤ c.shape.size.rows
      → col + columns xterm_wide cell ≤ c.shape.width → 1 ≤ columns xterm_wide cell
      → write cell (drawn c (painted blank_cell c.shape row col) (at_place row (col + 1)) look)
      ≡ drawn c (placed xterm_wide blank_cell (painted blank_cell c.shape row col) row (col + 1) cell)
      (behind c.shape row (col + columns xterm_wide cell)) look
  unfolding write after_wrap put_if_room put
  write-behind row col look cell r1 rh fits some =
      let t = c.shape in
      let inside : nat_le (col + 1) t.width ≡ true = grind (arith, nat_tests, fits, some) in
      let roomy : nat_le (columns xterm_wide cell) (t.width - (col + 1) + 1) ≡ true = grind (arith, nat_tests, fits, some) in
      let place : col + 1 + columns xterm_wide cell ≡ col + columns xterm_wide cell + 1 = omega arith in
      rw (inside, roomy, place, no_wait (col + columns xterm_wide cell + 1) t.width)
      (ap (λ (g : Grid). drawn c g (behind t row (col + columns xterm_wide cell)) look)
      (written_behind xterm_wide blank_cell (incoming (drawn c (painted blank_cell t row col) (at_place row (col + 1)) look).shown) cell t row col refl grid r1 rh))

  -- ---- a character

  letter-effect : (b row col : ℕ) (look : Look) (g : Grid) → 0x20 ≤ b → b ≤ 0x7E
      → print b (drawn c g (at_place row col) look) ≡ write (written_cell look b false) (drawn c g (at_place row col) look)
  letter-effect b row col look g low high =
      let s = drawn c g (at_place row col) look in
      ap (λ (x : GraphicSets). write_if_read (glyph_read sets_at_power_up b) (on_shown (λ d. record d { sets = x }) s))
      (after_read-plain sets_at_power_up b refl low high)
      ∙ ap (λ (o : Option ℕ). write_if_read o s) (glyph_read-plain sets_at_power_up b (refl, refl) low high)

  wide-effect : (ch row col : ℕ) (wide : Bool) (look : Look) (g : Grid) → cells ch ≡ (if wide then 2 else 1)
      → write_character ch (drawn c g (at_place row col) look) ≡ write (written_cell look ch wide) (drawn c g (at_place row col) look)
  wide-effect ch row col true look g is =
      ap (λ n. write_of_width n ch (drawn c g (at_place row col) look)) is
  wide-effect ch row col false look g is =
      ap (λ n. write_of_width n ch (drawn c g (at_place row col) look)) is

  by_either : (a b x y e : Bool) → ((a && b) || (x && (y && e))) ≡ true → ((a ≡ true) × (b ≡ true)) ⊎ ((x ≡ true) × (e ≡ true))
  by_either true true x y e is = inl (refl, refl)
  by_either true false true true true is = inr (refl, refl)
  by_either false b true true true is = inr (refl, refl)
  by_either true false true true false is = absurd (false≢true is)
  by_either true false true false e is = absurd (false≢true is)
  by_either true false false y e is = absurd (false≢true is)
  by_either false b true true false is = absurd (false≢true is)
  by_either false b true false e is = absurd (false≢true is)
  by_either false b false y e is = absurd (false≢true is)

  character-effect : (ch row col : ℕ) (wide : Bool) (look : Look) (g : Grid) → has_columns ch wide ≡ true
      → xterm.effect (character_action ch) (drawn c g (at_place row col) look)
      ≡ write (written_cell look ch wide) (drawn c g (at_place row col) look)
  unfolding has_columns
  character-effect ch row col wide look g is =
      go (by_either (is_within 0x20 0x7E ch) (not wide) (nat_le 0xA0 ch) (scalar ch) (cells ch == (if wide then 2 else 1)) is)
    where
      off : (w : Bool) → not w ≡ true → w ≡ false
      off false h = refl
      off true h = absurd (false≢true h)

      go : ((is_within 0x20 0x7E ch ≡ true) × (not wide ≡ true)) ⊎ ((nat_le 0xA0 ch ≡ true) × ((cells ch == (if wide then 2 else 1)) ≡ true))
          → xterm.effect (character_action ch) (drawn c g (at_place row col) look)
          ≡ write (written_cell look ch wide) (drawn c g (at_place row col) look)
      go (inl h) =
          let ascii : nat_lt ch 0x80 ≡ true = grind (arith, nat_tests, h.0) in
          let narrow : wide ≡ false = off wide h.1 in
          rw (ascii, narrow) (letter-effect ch row col look g (grind (arith, nat_tests, h.0)) (grind (arith, nat_tests, h.0)))
      go (inr h) =
          let beyond : nat_lt ch 0x80 ≡ false = grind (arith, nat_tests, h.0) in
          rw beyond (wide-effect ch row col wide look g (grind (arith, nat_tests, h.1)))

  some_columns : (cell : CellParts) → 1 ≤ columns xterm_wide cell
  some_columns cell = go cell.wide
    where
      go : (w : Bool) → 1 ≤ (if w then 2 else 1)
      go true = omega arith
      go false = omega arith

  -- ---- a mark

  -- where the cursor is behind a character
  record IsBehind (row col n : ℕ) (p : Cursor) : Type 0 where
    in_row : p.row ≡ row
    column : (if p.wrap || p.col == 1 then p.col else p.col - 1) ≡ col + n

  is_behind : (row col n : ℕ) → 1 ≤ n → col + n ≤ c.shape.width → IsBehind row col n (behind c.shape row (col + n))
  is_behind row col n some fits = elim (leb_tells (col + n + 1) c.shape.width) [
    | inl h ↦
        let late : (col + n + 1 == 1) ≡ false = grind (arith, nat_tests, some) in
        rw h.0 (record { in_row = refl; column = rw late (omega arith) })
    | inr h ↦
        let end : c.shape.width ≡ col + n = omega (arith, fits, h.1) in
        let same : (c.shape.width == c.shape.width) ≡ true = grind (arith, nat_tests) in
        rw h.0 (record { in_row = refl; column = rw same end })
  ]

  is_zero : (n : ℕ) (y : Bool) → (n == 0 && y) ≡ true → n ≡ 0
  is_zero n y is = grind (arith, nat_tests, is)

  no_cells : (m : ℕ) → is_mark m ≡ true → cells m ≡ 0
  unfolding is_mark
  no_cells m is = is_zero (cells m) _ is

  mark-effect : (row col : ℕ) (look : Look) (cell : CellParts) (m : ℕ) → 1 ≤ row → row ≤ c.shape.size.rows
      → col + columns xterm_wide cell ≤ c.shape.width → is_second cell ≡ false → is_mark m ≡ true
      → xterm.effect (Character m) (drawn c (placed xterm_wide blank_cell (painted blank_cell c.shape row col) row (col + 1) cell)
      (behind c.shape row (col + columns xterm_wide cell)) look)
      ≡ drawn c (placed xterm_wide blank_cell (painted blank_cell c.shape row col) row (col + 1) (marked cell m))
      (behind c.shape row (col + columns xterm_wide cell)) look
  mark-effect row col look cell m r1 rh fits first is =
      let t = c.shape in
      let P = painted blank_cell t row col in
      let G = placed xterm_wide blank_cell P row (col + 1) cell in
      let n = columns xterm_wide cell in
      let p = behind t row (col + n) in
      let some : 1 ≤ n = some_columns cell in
      let there = is_behind row col n some fits in
      let place : col + n ≡ col + 1 + n - 1 = omega arith in
      ap (λ w. write_of_width w m (drawn c G p look)) (no_cells m is)
      ∙ ap (λ (g : Grid). drawn c g p look)
      (ap (λ (r : ℕ). joined xterm_wide blank_cell G r (joined_column xterm_wide blank_cell G r p.col p.wrap) m) there.in_row
      ∙ ap (λ (at : ℕ). joined xterm_wide blank_cell G row at m)
      (mark_column xterm_wide blank_cell xterm_halves P row (col + 1) cell p.wrap p.col r1 rh (omega arith) (omega (arith, fits)) first
      (there.column ∙ place))
      ∙ joined_placed xterm_wide blank_cell xterm_halves P row (col + 1) cell m r1 rh (omega arith) (omega (arith, fits, some)))

  -- ---- a cell

  -- the parts of a cell that isn't the second one of a wide character
  pub glyph-effect : (row col : ℕ) (look : Look) (ch m o : ℕ) (wide : Bool) → 1 ≤ row → row ≤ c.shape.size.rows
      → col + (if wide then 2 else 1) ≤ c.shape.width → (not wide && ch == 0) ≡ false → has_columns ch wide ≡ true → are_marks m o ≡ true
      → state_after xterm (glyph_actions (record { character = ch; mark = m; other_mark = o; wide = wide; look = look }))
      (drawn c (painted blank_cell c.shape row col) (at_place row (col + 1)) look)
      ≡ drawn c (placed xterm_wide blank_cell (painted blank_cell c.shape row col) row (col + 1)
      (record { character = ch; mark = m; other_mark = o; wide = wide; look = look })) (behind c.shape row (col + (if wide then 2 else 1))) look
  unfolding is_mark_or_none
  glyph-effect row col look ch m o wide r1 rh fits first has are =
      ap (λ (s : XtermState). state_after xterm (mark_actions m ++ mark_actions o) s) base-written ∙ marks (m == 0) refl (o == 0) refl
    where
      t : Grid
      t = c.shape

      cell : ℕ → ℕ → CellParts
      cell i j = record { character = ch; mark = i; other_mark = j; wide = wide; look = look }

      after : CellParts → XtermState
      after x = drawn c (placed xterm_wide blank_cell (painted blank_cell t row col) row (col + 1) x)
          (behind t row (col + (if wide then 2 else 1))) look

      base-written : xterm.effect (character_action ch) (drawn c (painted blank_cell t row col) (at_place row (col + 1)) look) ≡ after (cell 0 0)
      base-written = character-effect ch row (col + 1) wide look (painted blank_cell t row col) has
          ∙ write-behind row col look (written_cell look ch wide) r1 rh fits (some_columns (written_cell look ch wide))

      one : (i j k : ℕ) → is_mark k ≡ true → xterm.effect (Character k) (after (cell i j)) ≡ after (marked (cell i j) k)
      one i j k is = mark-effect row col look (cell i j) k r1 rh fits first is

      is_one : (k : ℕ) → (k == 0) ≡ false → is_mark_or_none k ≡ true → is_mark k ≡ true
      is_one k none is = grind (arith, nat_tests, none, is)

      first_mark : (k : ℕ) → is_mark k ≡ true → marked (cell 0 0) k ≡ cell k 0
      first_mark k is = rw (first, is) refl

      second_mark : (i k : ℕ) → (i == 0) ≡ false → is_mark k ≡ true → marked (cell i 0) k ≡ cell i k
      second_mark i k some is = rw (first, is, some) refl

      marks : (x : Bool) → (m == 0) ≡ x → (y : Bool) → (o == 0) ≡ y
          → state_after xterm (mark_actions m ++ mark_actions o) (after (cell 0 0)) ≡ after (cell m o)
      marks true mz true oz =
          let m0 : 0 ≡ m = grind (arith, nat_tests, mz) in
          let o0 : 0 ≡ o = grind (arith, nat_tests, oz) in
          rw (mz, oz) (ap (λ i. after (cell i 0)) m0 ∙ ap (λ j. after (cell m j)) o0)
      marks false mz true oz =
          let o0 : 0 ≡ o = grind (arith, nat_tests, oz) in
          let is : is_mark m ≡ true = is_one m mz (grind (arith, nat_tests, are)) in
          rw (mz, oz) (one 0 0 m is ∙ ap after (first_mark m is) ∙ ap (λ j. after (cell m j)) o0)
      marks false mz false oz =
          let is : is_mark m ≡ true = is_one m mz (grind (arith, nat_tests, are)) in
          let also : is_mark o ≡ true = is_one o oz (grind (arith, nat_tests, are)) in
          rw (mz, oz) (ap (λ (s : XtermState). xterm.effect (Character o) s) (one 0 0 m is ∙ ap after (first_mark m is))
          ∙ one m 0 o also ∙ ap after (second_mark m o mz also))
      marks true mz false oz = absurd (false≢true (grind (arith, nat_tests, are, mz, oz)))
