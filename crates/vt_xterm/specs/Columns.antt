-- Moving the cursor, by functions that a VT220 lacks. Each of these resets the wrap flag. (ECMA-48, by its
-- sections; DECOM and the margins as in xterm's control sequences)
use Rattle.std.specs.Prelude.{ℕ, ◌+◌, min, if◌then◌else◌}
use Rattle.vt_term.specs.State.{Display, bottom_row, last_column, at_place}
use Rattle.vt_term.specs.Moving.{row_of_line, cursor_up, cursor_down, carriage_return}

-- CHA and HPA: to column n, not past the last column (ECMA-48 8.3.9, 8.3.57)
abbrev pub cursor_character_absolute : ℕ → Display → Display
cursor_character_absolute n s = record s { cursor = at_place s.cursor.row (min n (last_column s)) }

-- VPA: to line n, in the same column (ECMA-48 8.3.158)
abbrev pub line_position_absolute : ℕ → Display → Display
line_position_absolute n s = record s { cursor = at_place (row_of_line n s) s.cursor.col }

-- VPR: down n, not past the last row, or under DECOM not past the bottom margin (ECMA-48 8.3.160)
abbrev pub line_position_forward : ℕ → Display → Display
line_position_forward n s = record s {
  cursor = at_place (min (s.cursor.row + n) (if s.modes.decom then s.margins.bottom else bottom_row s)) s.cursor.col;
}

-- CNL: CUD, and then CR (ECMA-48 8.3.12)
abbrev pub cursor_next_line : ℕ → Display → Display
cursor_next_line n s = carriage_return (cursor_down n s)

-- CPL: CUU, and then CR (ECMA-48 8.3.13)
abbrev pub cursor_preceding_line : ℕ → Display → Display
cursor_preceding_line n s = carriage_return (cursor_up n s)
