-- Moving the cursor. Each of these resets the wrap flag, but for margins that have no effect. (EK-VT220-RM, chapter 4,
-- by the mnemonics, and ECMA-48 by its sections; the flag is this profile's)
use Rattle.std.specs.Prelude.{ℕ, Bool, ◌+◌, ◌-◌, min, max, ◌==◌, nat_le, nat_lt, if◌then◌else◌}
use Rattle.vt_screen.specs.Grid.{scroll_up_any, scroll_down_any}
use Rattle.vt_term.specs.Kinds.{KindOf}
use Rattle.vt_term.specs.Rendition.{vt220_kind}
use Rattle.vt_term.specs.State.{DisplayOf, Display, last_column, at_place, bottom_row}
use Rattle.vt_term.specs.Parameters.{from_one}

-- home is column 1 of row 1, or under DECOM of the top margin's row (EK-VT220-RM: DECOM)
abbrev pub home : {C B : Type 0} → DisplayOf C B → DisplayOf C B
home s = record s { cursor = at_place (if s.modes.decom then s.margins.top else 1) 1 }

-- BS: left by one, staying at column 1 (ECMA-48 8.3.5)
abbrev pub backspace : {C B : Type 0} → DisplayOf C B → DisplayOf C B
backspace s = record s { cursor = at_place s.cursor.row (max (s.cursor.col - 1) 1) }

-- CR (ECMA-48 8.3.15)
abbrev pub carriage_return : {C B : Type 0} → DisplayOf C B → DisplayOf C B
carriage_return s = record s { cursor = at_place s.cursor.row 1 }

-- CUU: up n, not past the top margin, or from above it not past row 1 (ECMA-48 8.3.22)
abbrev pub cursor_up : {C B : Type 0} → ℕ → DisplayOf C B → DisplayOf C B
cursor_up n s =
    let limit = if nat_le s.margins.top s.cursor.row then s.margins.top else 1 in
    record s { cursor = at_place (max (s.cursor.row - n) limit) s.cursor.col }

-- CUD: down n, not past the bottom margin, or from below it not past the last row (ECMA-48 8.3.19)
abbrev pub cursor_down : {C B : Type 0} → ℕ → DisplayOf C B → DisplayOf C B
cursor_down n s =
    let limit = if nat_le s.cursor.row s.margins.bottom then s.margins.bottom else bottom_row s in
    record s { cursor = at_place (min (s.cursor.row + n) limit) s.cursor.col }

-- CUF: right n, not past the last column (ECMA-48 8.3.20)
abbrev pub cursor_forward : {C B : Type 0} → ℕ → DisplayOf C B → DisplayOf C B
cursor_forward n s = record s { cursor = at_place s.cursor.row (min (s.cursor.col + n) (last_column s)) }

-- CUB: left n, not past column 1 (ECMA-48 8.3.18)
abbrev pub cursor_backward : {C B : Type 0} → ℕ → DisplayOf C B → DisplayOf C B
cursor_backward n s = record s { cursor = at_place s.cursor.row (max (s.cursor.col - n) 1) }

-- the row of a line: under DECOM counted from the top margin and not past the bottom one, else not past the last row
-- (EK-VT220-RM: DECOM)
abbrev pub row_of_line : {C B : Type 0} → ℕ → DisplayOf C B → ℕ
row_of_line line s = if s.modes.decom then min (s.margins.top + line - 1) s.margins.bottom else min line (bottom_row s)

-- CUP and HVP: to a line and column, for which 0 means 1 (ECMA-48 8.3.21, 8.3.63)
abbrev pub cursor_position : {C B : Type 0} → ℕ → ℕ → DisplayOf C B → DisplayOf C B
cursor_position line col s =
    record s { cursor = at_place (row_of_line (from_one line) s) (min (from_one col) (last_column s)) }

-- IND: down by one, staying at the last row; at the bottom margin the rows between the margins move up instead
-- (EK-VT220-RM)
abbrev pub index_any : {C B : Type 0} → KindOf C B → DisplayOf C B → DisplayOf C B
index_any k s = record s {
  grid = if s.cursor.row == s.margins.bottom then scroll_up_any k.cells.blank (k.own.emptied s.brush) s.grid s.margins.top s.margins.bottom 1 else s.grid;
  cursor = at_place (if s.cursor.row == s.margins.bottom then s.cursor.row else min (s.cursor.row + 1) (bottom_row s))
      s.cursor.col;
}

-- RI: up by one, staying at row 1; at the top margin the rows between the margins move down instead (ECMA-48 8.3.104)
abbrev pub reverse_index_any : {C B : Type 0} → KindOf C B → DisplayOf C B → DisplayOf C B
reverse_index_any k s = record s {
  grid = if s.cursor.row == s.margins.top then scroll_down_any k.cells.blank (k.own.emptied s.brush) s.grid s.margins.top s.margins.bottom 1 else s.grid;
  cursor = at_place (if s.cursor.row == s.margins.top then s.cursor.row else max (s.cursor.row - 1) 1) s.cursor.col;
}

-- NEL (ECMA-48 8.3.86)
abbrev pub next_line_any : {C B : Type 0} → KindOf C B → DisplayOf C B → DisplayOf C B
next_line_any k s = index_any k (carriage_return s)

-- LF, VT and FF: IND, and under LNM column 1 too (EK-VT220-RM)
abbrev pub line_feed_any : {C B : Type 0} → KindOf C B → DisplayOf C B → DisplayOf C B
line_feed_any k s = if s.modes.lnm then next_line_any k s else index_any k s

-- the bottom margin that DECSTBM names: the last row for 0, and not past it
abbrev pub bottom_margin : ℕ → ℕ → ℕ
bottom_margin last p = if p == 0 then last else min p last

-- margins of at least two rows (EK-VT220-RM: DECSTBM)
abbrev pub are_margins : ℕ → ℕ → ℕ → Bool
are_margins last p1 p2 = nat_lt (from_one p1) (bottom_margin last p2)

-- DECSTBM: the cursor goes home; parameters that aren't margins have no effect (EK-VT220-RM)
abbrev pub set_margins : {C B : Type 0} → ℕ → ℕ → DisplayOf C B → DisplayOf C B
set_margins p1 p2 s =
    if are_margins (bottom_row s) p1 p2
    then home (record s { margins = record { top = from_one p1; bottom = bottom_margin (bottom_row s) p2 } }) else s

-- ---- on a VT220

abbrev pub index : Display → Display
index s = index_any vt220_kind s

abbrev pub reverse_index : Display → Display
reverse_index s = reverse_index_any vt220_kind s

abbrev pub next_line : Display → Display
next_line s = next_line_any vt220_kind s

abbrev pub line_feed : Display → Display
line_feed s = line_feed_any vt220_kind s
