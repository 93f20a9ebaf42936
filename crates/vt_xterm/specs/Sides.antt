-- Left and right margins, and what each function does between them. (VT510 manual: DECLRMM and DECSLRM, and the functions that they
-- bound; where it leaves a case open, xterm 379)
use Rattle.std.specs.Prelude.{◌≡◌, ℕ, ◌+◌, ◌-◌, ◌≤◌, ◌<◌, Bool, true, false, not, min, max, Option, Some, None, ⊤}
use Rattle.std.specs.Prelude.{◌==◌, ◌&&◌, ◌||◌, nat_le, nat_lt, slice_index_or, if◌then◌else◌}
use Rattle.vt_screen.specs.Cells.{blank, cell_of}
use Rattle.vt_screen.specs.Grid.{Grid, is_within, put, row_of}
use Rattle.vt_screen.specs.Between.{columns_up, columns_down, insert_between, delete_between, put_between}
use Rattle.vt_term.specs.declared.state.Cursor.{Cursor}
use Rattle.vt_term.specs.State.{Display, at_place, bottom_row, last_column}
use Rattle.vt_term.specs.Parameters.{from_one}
use Rattle.vt_term.specs.Moving.{row_of_line, cursor_up, cursor_down, are_margins, bottom_margin}
use Rattle.vt_term.specs.Tabs.{next_stop_of}
use Rattle.vt_term.specs.Editing.{with_grid, is_inside}
use Rattle.vt_term.specs.Modes.{with_modes}
use Rattle.vt_xterm.specs.declared.sides.Sides.{Sides}
use Rattle.vt_xterm.specs.Repeating.{times}
use Rattle.vt_xterm.specs.Tabs.{stop_before}

-- left and right margins with at least two columns, on a screen of so many
pub record AreSides (width : ℕ) (m : Sides) : Type 0 where
  pub from_column_1 : 1 ≤ m.left
  pub two_columns : m.left < m.right
  pub to_last_column : m.right ≤ width

-- all columns
abbrev pub full_sides : ℕ → Sides
full_sides width = record { left = 1; right = width; wrap = false }

-- the margins fit the screen and leave a column out
abbrev pub are_narrow : ℕ → Sides → Bool
are_narrow width m =
    (nat_le 1 m.left && (nat_lt m.left m.right && nat_le m.right width)) && not (m.left == 1 && m.right == width)

-- the margins that bound functions: those that leave a column of the screen out, if DECLRMM is set
unfoldable pub bounds : ℕ → Option Sides → Option Sides
bounds width None = None
bounds width (Some m) = if are_narrow width m then Some m else None

-- DECSLRM: margins of at least two columns; 0 is column 1 and the last column, which is also what is past it
abbrev pub right_margin : ℕ → ℕ → ℕ
right_margin last p = if p == 0 then last else min p last

abbrev pub are_sides : ℕ → ℕ → ℕ → Bool
are_sides last p1 p2 = nat_lt (from_one p1) (right_margin last p2)

abbrev pub sides_of : ℕ → ℕ → ℕ → Sides
sides_of last p1 p2 = record { left = from_one p1; right = right_margin last p2; wrap = false }

-- ---- where the cursor goes

-- the cursor's column is between the margins
abbrev pub is_between : Sides → Display → Bool
is_between m s = is_within m.left m.right s.cursor.col

-- the last column that the cursor reaches: the right margin, or from right of it the last column of the screen
abbrev pub last_reached : Sides → Display → ℕ
last_reached m s = if nat_le s.cursor.col m.right then m.right else last_column s

-- the first column that the cursor reaches: the left margin, or from left of it column 1
abbrev pub first_reached : Sides → Display → ℕ
first_reached m s = if nat_le m.left s.cursor.col then m.left else 1

-- the column of a number: under DECOM counted from the left margin and not past the right one, otherwise not past the
-- last column
abbrev pub column_of : Sides → ℕ → Display → ℕ
column_of m n s = if s.modes.decom then min (m.left + n - 1) m.right else min n (last_column s)

-- home is column 1 of row 1, or under DECOM the left margin's column of the top margin's row
abbrev pub home : Sides → Display → Display
home m s = record s {
  cursor = at_place (if s.modes.decom then s.margins.top else 1) (if s.modes.decom then m.left else 1);
}

-- CR: to the left margin, or from left of it, without DECOM, to column 1
abbrev pub carriage_return : Sides → Display → Display
carriage_return m s = record s {
  cursor = at_place s.cursor.row (if s.modes.decom then m.left else first_reached m s);
}

-- CUF
abbrev pub cursor_forward : ℕ → Sides → Display → Display
cursor_forward n m s = record s { cursor = at_place s.cursor.row (min (s.cursor.col + n) (last_reached m s)) }

-- CUB, and BS by one
abbrev pub cursor_backward : ℕ → Sides → Display → Display
cursor_backward n m s = record s { cursor = at_place s.cursor.row (max (s.cursor.col - n) (first_reached m s)) }

-- CUP and HVP
abbrev pub cursor_position : ℕ → ℕ → Sides → Display → Display
cursor_position line col m s =
    record s { cursor = at_place (row_of_line (from_one line) s) (column_of m (from_one col) s) }

-- CHA and HPA
abbrev pub cursor_character_absolute : ℕ → Sides → Display → Display
cursor_character_absolute n m s = record s { cursor = at_place s.cursor.row (column_of m n s) }

-- HPR: not past the last column, or under DECOM not past the right margin
abbrev pub character_position_forward : ℕ → Sides → Display → Display
character_position_forward n m s = record s {
  cursor = at_place s.cursor.row (min (s.cursor.col + n) (if s.modes.decom then m.right else last_column s));
}

-- CNL and CPL: CUD or CUU, and then CR
abbrev pub cursor_next_line : ℕ → Sides → Display → Display
cursor_next_line n m s = carriage_return m (cursor_down n s)

abbrev pub cursor_preceding_line : ℕ → Sides → Display → Display
cursor_preceding_line n m s = carriage_return m (cursor_up n s)

-- HT: to the next stop and not past the right margin, to which it goes back from right of it (xterm 379)
abbrev pub horizontal_tab : Sides → Display → Display
horizontal_tab m s =
    record s { cursor = at_place s.cursor.row (min (next_stop_of s.stops s.cursor.col (last_column s)) m.right) }

-- CHT
abbrev pub cursor_forward_tabulation : ℕ → Sides → Display → Display
cursor_forward_tabulation n m s = times (min n (last_column s)) (horizontal_tab m) s

-- HT and CHT under a pending wrap: it is pending at the right margin then (xterm 379)
abbrev pub wrap_waiting : Sides → Display → Display
wrap_waiting m s = if nat_lt m.right (last_column s) then record s { cursor = at_place s.cursor.row m.right } else s

-- CBT: to the stop before, and under DECOM not left of the left margin (xterm 379)
abbrev pub back_tab : Sides → Display → Display
back_tab m s = record s {
  cursor = at_place s.cursor.row (max (stop_before s.stops s.cursor.col) (if s.modes.decom then m.left else 1));
}

abbrev pub cursor_backward_tabulation : ℕ → Sides → Display → Display
cursor_backward_tabulation n m s = times (min n (last_column s)) (back_tab m) s

-- under DECOM the cursor is brought between the margins, as its row is (this profile)
abbrev pub brought : Sides → Display → Display
brought m s =
    if s.modes.decom && not (is_between m s)
    then record s { cursor = at_place s.cursor.row (max m.left (min s.cursor.col m.right)) } else s

-- ---- rows that move

-- IND: at the bottom margin the rows between all four margins move up, if the cursor is between the left and the right one
abbrev pub index : Sides → Display → Display
index m s = record s {
  grid = if s.cursor.row == s.margins.bottom && is_between m s
      then columns_up s.grid s.margins.top s.margins.bottom m.left m.right 1 else s.grid;
  cursor = at_place (if s.cursor.row == s.margins.bottom then s.cursor.row else min (s.cursor.row + 1) (bottom_row s))
      s.cursor.col;
}

-- RI: at the top margin the rows between all four margins move down, if the cursor is between the left and the right
-- one
abbrev pub reverse_index : Sides → Display → Display
reverse_index m s = record s {
  grid = if s.cursor.row == s.margins.top && is_between m s
      then columns_down s.grid s.margins.top s.margins.bottom m.left m.right 1 else s.grid;
  cursor = at_place (if s.cursor.row == s.margins.top then s.cursor.row else max (s.cursor.row - 1) 1) s.cursor.col;
}

-- NEL: IND, and then CR (xterm 379)
abbrev pub next_line : Sides → Display → Display
next_line m s = carriage_return m (index m s)

-- LF, VT and FF
abbrev pub line_feed : Sides → Display → Display
line_feed m s = if s.modes.lnm then next_line m s else index m s

-- SU and SD: wherever the cursor is
abbrev pub rows_up : ℕ → Sides → Display → Display
rows_up n m s = record s { grid = columns_up s.grid s.margins.top s.margins.bottom m.left m.right n }

abbrev pub rows_down : ℕ → Sides → Display → Display
rows_down n m s = record s { grid = columns_down s.grid s.margins.top s.margins.bottom m.left m.right n }

-- IL and DL, which need a cursor between all four margins: it goes to the left one
abbrev pub is_enclosed : Sides → Display → Bool
is_enclosed m s = is_inside s && is_between m s

abbrev pub line_edited : Grid → Sides → Display → Display
line_edited grid m s = record s { grid = grid; cursor = at_place s.cursor.row m.left }

abbrev pub insert_line : ℕ → Sides → Display → Display
insert_line n m s = line_edited (columns_down s.grid s.cursor.row s.margins.bottom m.left m.right n) m s

abbrev pub delete_line : ℕ → Sides → Display → Display
delete_line n m s = line_edited (columns_up s.grid s.cursor.row s.margins.bottom m.left m.right n) m s

-- ---- cells that move

-- ICH and DCH: between the margins, up to the right one. Elsewhere DCH leaves a pending wrap (xterm 379)
abbrev pub insert_character : ℕ → Sides → Display → Display
insert_character n m s =
    with_grid (if is_between m s then insert_between s.grid s.cursor.row s.cursor.col m.right n else s.grid) s

abbrev pub delete_character : ℕ → Sides → Display → Display
delete_character n m s =
    if is_between m s then with_grid (delete_between s.grid s.cursor.row s.cursor.col m.right n) s else s

-- ---- writing

-- a wrap is pending
abbrev pub is_pending : Sides → Display → Bool
is_pending m s = m.wrap || s.cursor.wrap

-- a pending wrap is carried out: IND, and the left margin
abbrev pub after_wrap : Sides → Display → Display
after_wrap m s =
    if is_pending m s then record (index m s) { cursor = at_place (index m s).cursor.row m.left } else s

-- the glyph with the brush, at the cursor; under IRM, between the margins, the cells at and after it move right first
abbrev pub with_glyph : ℕ → Sides → Display → Grid
with_glyph glyph m s =
    if s.modes.irm && is_between m s then put_between s.grid s.cursor.row s.cursor.col m.right (cell_of glyph s.brush)
    else put s.grid s.cursor.row s.cursor.col (cell_of glyph s.brush)

-- one column on; in the last column that the cursor reaches it stays, and under DECAWM a wrap is pending
abbrev pub next_place : Sides → Display → Cursor
next_place m s =
    if nat_lt s.cursor.col (last_reached m s) then at_place s.cursor.row (s.cursor.col + 1)
    else record s.cursor { wrap = s.modes.decawm && s.cursor.col == last_column s }

abbrev pub put_glyph : ℕ → Sides → Display → Display
put_glyph glyph m s = record s { grid = with_glyph glyph m s; cursor = next_place m s }

abbrev pub write_glyph : ℕ → Sides → Display → Display
write_glyph glyph m s = put_glyph glyph m (after_wrap m s)

-- a glyph is in the right margin's column, left of the last one, and the next one begins a new line
abbrev pub is_wrapping : Sides → Display → Bool
is_wrapping m s = s.modes.decawm && (s.cursor.col == m.right && nat_lt m.right (last_column s))

abbrev pub sides_after : Sides → Display → Sides
sides_after m s = record m { wrap = is_wrapping m (after_wrap m s) }

-- REP: as without margins, up to the last column that the cursor reaches; with a pending wrap at most for the columns between them
abbrev pub column_before : Sides → Display → ℕ
column_before m s = if is_pending m s then s.cursor.col else s.cursor.col - 1

abbrev pub glyph_before : Sides → Display → ℕ
glyph_before m s = (slice_index_or (row_of s.grid s.cursor.row) (column_before m s - 1) blank).glyph

abbrev pub room : Sides → Display → ℕ
room m s = if is_pending m s then m.right - m.left + 1 else last_reached m s - s.cursor.col + 1

-- ---- margins and modes

-- DECSTBM
abbrev pub set_margins : ℕ → ℕ → Sides → Display → Display
set_margins p1 p2 m s =
    if are_margins (bottom_row s) p1 p2
    then home m (record s { margins = record { top = from_one p1; bottom = bottom_margin (bottom_row s) p2 } }) else s

-- DECOM
abbrev pub origin_mode : Bool → Sides → Display → Display
origin_mode on m s = home m (with_modes (λ x. record x { decom = on }) s)

-- ---- what holds of them

-- the left and right margins are margins of the screen. A wrap is pending under DECAWM, in the right margin's column,
-- left of the last one. Under DECOM the cursor is between the margins
pub record FitsMargins (m : Sides) (s : Display) : Type 0 where
  pub sides : AreSides (last_column s) m
  pub wrap : m.wrap ≡ true → is_wrapping m s ≡ true
  pub origin : s.modes.decom ≡ true → is_between m s ≡ true

-- the margins are so if DECLRMM is set
abbrev pub FitsSides : Display → Option Sides → Type 0
FitsSides s None = ⊤
FitsSides s (Some m) = FitsMargins m s
