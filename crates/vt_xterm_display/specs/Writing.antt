-- Writing characters and marks. (docs/XTERM.md: Writing. xterm 379, but for what names another source)
use Rattle.std.specs.Prelude.{◌≡◌, ◌≤◌, ℕ, List, length, ◌+◌, ◌-◌, Bool, true, false, min, Option, Some, None, ◌==◌, ◌/◌, ◌&&◌, ◌||◌, nat_le, nat_lt, if◌then◌else◌}
use Rattle.vt_glyph.specs.Invocation.{glyph_read, after_read}
use Rattle.vt_screen.specs.Grid.{at_or}
use Rattle.vt_term.specs.State.{at_place, last_column}
use Rattle.vt_term.specs.declared.state.Cursor.{Cursor}
use Rattle.vt_utf8.specs.Cells.{cells}
use Rattle.vt_wide.specs.Edits.{columns, written, written_inserting, written_bytes, joined_column, joined}
use Rattle.vt_xterm_cell.specs.Words.{CellParts}
use Rattle.vt_xterm_cell.specs.Cells.{blank_cell, written_cell, space_with}
use Rattle.vt_xterm_cell.specs.Wide.{xterm_wide}
use Rattle.vt_xterm_display.specs.declared.sides.Sides.{Sides}
use Rattle.vt_xterm_display.specs.State.{Grid, Shown, XtermState, on_shown, moved}
use Rattle.vt_xterm_display.specs.Moving.{is_between, last_reached}
use Rattle.vt_xterm_display.specs.Rows.{incoming, index, next_line}
use Rattle.vt_xterm_display.specs.Tabs.{times, is_pending}

-- a pending wrap is carried out: IND, and the left margin's column
abbrev pub wrapped : Sides → Shown → Shown
wrapped m s = record (index m s) { cursor = at_place (index m s).cursor.row m.left }

unfoldable pub after_wrap : XtermState → XtermState
after_wrap s = if is_pending s then moved wrapped s else s

-- the columns from the cursor to the last one that it reaches
abbrev pub room : Sides → Shown → ℕ
room m s = last_reached m s - s.cursor.col + 1

-- the character that begins with a cell, at the cursor, over what is there
abbrev pub with_over : CellParts → Shown → Grid
with_over cell s = written xterm_wide blank_cell (incoming s) s.grid s.cursor.row s.cursor.col cell

-- the same, after the cells at and after the cursor moved right
abbrev pub with_inserted : CellParts → Sides → Shown → Grid
with_inserted cell m s = written_inserting xterm_wide blank_cell (incoming s) s.grid s.cursor.row s.cursor.col m.right cell

-- under IRM, between the margins, the cells move right first
abbrev pub with_character : CellParts → Sides → Shown → Grid
with_character cell m s = if s.modes.irm && is_between m s then with_inserted cell m s else with_over cell s

-- the cursor after the column that it would go to: it doesn't pass the last one that it reaches, and under DECAWM a wrap is pending there. In
-- the last column of the screen the cursor's flag says so, and at the right margin left of it the cursor waits
abbrev pub cursor_at : ℕ → ℕ → ℕ → ℕ → Bool → Cursor
cursor_at row col reached last decawm =
    if nat_le col reached then at_place row col else record { row = row; col = reached; wrap = decawm && reached == last }

abbrev pub waits_at : ℕ → ℕ → ℕ → Bool → Bool
waits_at col reached last decawm = if nat_le col reached then false else decawm && nat_lt reached last

-- n columns on
abbrev pub advanced : ℕ → XtermState → XtermState
advanced n s = record s {
  shown = record s.shown {
    cursor = cursor_at s.shown.cursor.row (s.shown.cursor.col + n) (last_reached s.sides s.shown) (last_column s.shown)
        s.shown.modes.decawm;
  };
  waits = waits_at (s.shown.cursor.col + n) (last_reached s.sides s.shown) (last_column s.shown) s.shown.modes.decawm;
}

abbrev pub with_grid : Grid → XtermState → XtermState
with_grid grid s = record s { shown = record s.shown { grid = grid } }

-- a character that has room
unfoldable pub put : CellParts → XtermState → XtermState
put cell s = with_grid (with_character cell s.sides s.shown) (advanced (columns xterm_wide cell) s)

-- a wide character for which one column is left goes to the next line, as by NEL. Without DECAWM it isn't written
unfoldable pub put_if_room : CellParts → XtermState → XtermState
put_if_room cell s =
    if nat_le (columns xterm_wide cell) (room s.sides s.shown) then put cell s else (
    if s.shown.modes.decawm then put cell (moved next_line s) else s)

-- the character that begins with a cell
unfoldable pub write : CellParts → XtermState → XtermState
write cell s = put_if_room cell (after_wrap s)

-- ---- graphic bytes and characters

abbrev pub write_if_read : Option ℕ → XtermState → XtermState
write_if_read None s = s
write_if_read (Some character) s = write (written_cell s.shown.brush character false) s

-- a graphic byte: it is read through the sets
abbrev pub print : ℕ → XtermState → XtermState
print b s = write_if_read (glyph_read s.shown.sets b) (on_shown (λ d. record d { sets = after_read d.sets b }) s)

-- a mark joins the character before the cursor, or under it in column 1 and if a wrap is pending (the latter is this profile's)
abbrev pub mark : ℕ → XtermState → XtermState
mark c s = on_shown (λ d. record d {
  grid = joined xterm_wide blank_cell d.grid d.cursor.row
      (joined_column xterm_wide blank_cell d.grid d.cursor.row d.cursor.col (is_pending s)) c;
}) s

-- a single shift is no longer pending
abbrev pub unshifted : Shown → Shown
unshifted d = record d { sets = record d.sets { pending = None } }

-- a character of so many columns is written: under DECAWM always, otherwise if it has room
abbrev pub is_written : ℕ → XtermState → Bool
is_written width s = s.shown.modes.decawm || nat_le width (room s.sides s.shown)

-- a character beyond ASCII, of so many columns, uses up a single shift if it is written. One without a width joins as a mark, if it is one
abbrev pub write_of_width : ℕ → ℕ → XtermState → XtermState
write_of_width width c s =
    if width == 0 then mark c s else (
    if is_written width s then write (written_cell s.shown.brush c (width == 2)) (on_shown unshifted s) else s)

abbrev pub write_character : ℕ → XtermState → XtermState
write_character c = write_of_width (cells c) c

-- ---- runs

-- letters that have room, at once
abbrev pub with_letters : List ℕ → XtermState → XtermState
with_letters letters s =
    with_grid (written_bytes xterm_wide blank_cell (incoming s.shown) s.shown.grid s.shown.cursor.row s.shown.cursor.col letters
    (space_with s.shown.brush)) (advanced (length letters) s)

-- letters are read as they are, and written over what is there
pub record WritesLetters (s : XtermState) : Type 0 where
  pub letter : (b : ℕ) → 0x20 ≤ b → b ≤ 0x7E → glyph_read s.shown.sets b ≡ Some b
  pub sets : (b : ℕ) → 0x20 ≤ b → b ≤ 0x7E → after_read s.shown.sets b ≡ s.shown.sets
  pub replaces : s.shown.modes.irm ≡ false

-- ---- REP

-- the cell that a mark would join
abbrev pub cell_before : XtermState → CellParts
cell_before s = at_or blank_cell s.shown.grid s.shown.cursor.row
    (joined_column xterm_wide blank_cell s.shown.grid s.shown.cursor.row s.shown.cursor.col (is_pending s))

-- its character with the pen, without its marks
abbrev pub repeated : XtermState → CellParts
repeated s = written_cell s.shown.brush (cell_before s).character (cell_before s).wide

-- the columns up to the last one that the cursor reaches, or those between the margins if a wrap is pending
abbrev pub room_after_wrap : XtermState → ℕ
room_after_wrap s = if is_pending s then s.sides.right - s.sides.left + 1 else room s.sides s.shown

-- how many such characters have room
abbrev pub count_in : ℕ → Bool → ℕ
count_in room wide = if wide then room / 2 else room

-- REP stops before a character that wouldn't fit in the row. In column 1 without a pending wrap it has no effect (ECMA-48 8.3.103; the cell and the
-- end are this profile's)
abbrev pub repeat : ℕ → XtermState → XtermState
repeat n s =
    if s.shown.cursor.col == 1 && (if is_pending s then false else true) then s
    else times (min n (count_in (room_after_wrap s) (cell_before s).wide)) (write (repeated s)) s
