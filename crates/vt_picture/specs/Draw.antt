-- The bytes that make a modern terminal show a screen, given what it shows. (this profile; CUP, ED and SGR: ECMA-48
-- 8.3.21, 8.3.39 and 8.3.117; DECTCEM: xterm's control sequences)
use Rattle.std.specs.Prelude.{◌≡◌, ℕ, zero, suc, ◌+◌, List, [], ◌∷◌, ◌++◌, Bool, true, false, not, ◌==◌, ◌&&◌, if◌then◌else◌}
use Rattle.std.specs.Prelude.{codes, map, encode_utf8}
use Rattle.vt_syntax.specs.Spelling.{spell_event}
use Rattle.vt_screen.specs.declared.cell.Rendition.{Rendition}
use Rattle.vt_screen.specs.declared.cell.Cell.{Cell}
use Rattle.vt_screen.specs.Cells.{plain, blank}
use Rattle.vt_screen.specs.declared.size.Size.{Size}
use Rattle.vt_screen.specs.Grid.{row_of}
use Rattle.vt_screen.specs.Same.{when, same_bool, same_rendition}
use Rattle.vt_term.specs.State.{State}
use Rattle.vt_paint.specs.Controls.{cursor_position, private_mode}
use Rattle.vt_paint.specs.Named.{sequence_named}
use Rattle.vt_picture.specs.Show.{rendition_sequence, change}
use Rattle.vt_picture.specs.declared.drawing.pen.Pen.{Pen}

-- ---- what is shown

-- the attributes that are shown: on a reverse screen `reverse` is inverted
abbrev pub shown_rendition : (reversed : Bool) → Rendition → Rendition
shown_rendition reversed look = record {
  bold = look.bold;
  underline = look.underline;
  blink = look.blink;
  reverse = if reversed then not look.reverse else look.reverse;
}

-- the glyph and the attributes that are shown; protection isn't
abbrev pub shown_cell : (reversed : Bool) → Cell → Cell
shown_cell reversed cell = record {
  glyph = cell.glyph;
  rendition = shown_rendition reversed cell.rendition;
  protected = false;
}

-- the cells of each row as they are shown, the cursor's place, and whether the cursor is shown
pub record Shown : Type 0 where
  pub cells : ℕ → List Cell
  pub row : ℕ
  pub col : ℕ
  pub has_cursor : Bool

abbrev pub shown : State → Shown
shown s = record {
  cells = λ r. map (λ c. shown_cell s.display.modes.decscnm c) (row_of s.display.grid r);
  row = s.display.cursor.row;
  col = s.display.cursor.col;
  has_cursor = s.display.modes.dectcem;
}

-- an empty screen as wide as that of a state
abbrev pub erased : State → Shown
erased s = record {
  cells = λ r. map (λ c. blank) (row_of s.display.grid r);
  row = 1;
  col = 1;
  has_cursor = true;
}

-- ---- the pen: where the next character is shown, and with which attributes

-- CUP, if the pen is elsewhere
abbrev pub go : Pen → ℕ → ℕ → List ℕ
go pen row col = when (not (pen.row == row && pen.col == col)) (spell_event (cursor_position row col))

-- ---- a place is written if it shows something else

abbrev pub same_look : Cell → Cell → Bool
same_look a b = a.glyph == b.glyph && same_rendition a.rendition b.rendition

abbrev pub place_bytes : ℕ → ℕ → Cell → Cell → Pen → List ℕ
place_bytes row col old new pen =
    when (not (same_look old new))
    (go pen row col ++ (change pen.look new.rendition ++ encode_utf8 new.glyph))

-- the pen after a place; after the last column it is at no place
abbrev pub place_pen : ℕ → ℕ → Cell → Cell → Pen → Pen
place_pen row col old new pen =
    if same_look old new then pen else record { row = row; col = col + 1; look = new.rendition }

-- the bytes of the places of a row, starting at a column
abbrev pub row_bytes : ℕ → ℕ → List Cell → List Cell → Pen → List ℕ
row_bytes row col (old ∷ olds) (new ∷ news) pen =
    place_bytes row col old new pen ++ row_bytes row (col + 1) olds news (place_pen row col old new pen)
row_bytes row col _ _ pen = []

abbrev pub row_pen : ℕ → ℕ → List Cell → List Cell → Pen → Pen
row_pen row col (old ∷ olds) (new ∷ news) pen = row_pen row (col + 1) olds news (place_pen row col old new pen)
row_pen row col _ _ pen = pen

-- the pen after the first rows
unfoldable pub rows_pen : (ℕ → List Cell) → (ℕ → List Cell) → ℕ → Pen → Pen
rows_pen olds news zero pen = pen
rows_pen olds news (suc n) pen = row_pen (suc n) 1 (olds (suc n)) (news (suc n)) (rows_pen olds news n pen)

unfoldable pub rows_bytes : (ℕ → List Cell) → (ℕ → List Cell) → ℕ → Pen → List ℕ
rows_bytes olds news zero pen = []
rows_bytes olds news (suc n) pen =
    rows_bytes olds news n pen ++ row_bytes (suc n) 1 (olds (suc n)) (news (suc n)) (rows_pen olds news n pen)

-- ---- the screen

-- the bytes at the end: the cursor's place, no attributes, and the cursor shown or hidden if it isn't already
abbrev pub end_bytes : Pen → (was_shown : Bool) → Shown → List ℕ
end_bytes pen was_shown new =
    go pen new.row new.col ++ (change pen.look plain
    ++ when (not (same_bool was_shown new.has_cursor)) (spell_event (private_mode 25 new.has_cursor)))

-- the pen at first: at the cursor, without attributes
abbrev pub first_pen : Shown → Pen
first_pen old = record { row = old.row; col = old.col; look = plain }

-- the bytes from one screen of this size to another one
unfoldable pub changes_at : Size → Shown → Shown → List ℕ
changes_at size old new =
    rows_bytes old.cells new.cells size.rows (first_pen old)
    ++ end_bytes (rows_pen old.cells new.cells size.rows (first_pen old)) old.has_cursor new

-- no attributes, an empty screen, and the cursor shown in its first place
unfoldable pub erase : List ℕ
erase =
    rendition_sequence plain ++ (spell_event (cursor_position 1 1)
    ++ (spell_event (sequence_named [] (codes "ED")) ++ spell_event (private_mode 25 true)))

-- the drawing of a state of this size, on any screen
unfoldable pub draw_at : Size → State → List ℕ
draw_at size s = erase ++ changes_at size (erased s) (shown s)

-- the drawing of the second of two states of this size, on the screen of the first. A screen of another width is erased
unfoldable pub draw_from_at : Size → State → State → List ℕ
draw_from_at size a b =
    if a.display.grid.width == b.display.grid.width then changes_at size (shown a) (shown b) else draw_at size b

-- ---- at any size

abbrev pub sized_draw : State → List ℕ
sized_draw s = draw_at s.display.grid.size s

-- a screen with another number of rows is erased, too
abbrev pub sized_draw_from : State → State → List ℕ
sized_draw_from a b =
    if a.display.grid.size.rows == b.display.grid.size.rows then draw_from_at b.display.grid.size a b else sized_draw b
