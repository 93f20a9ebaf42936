-- Moving the cursor between left and right margins, which are all columns if DECLRMM is reset. (VT510 manual: DECLRMM and DECSLRM, and the
-- functions that they bound; ECMA-48 by the mnemonics; where both leave a case open, xterm 379)
use Rattle.std.specs.Prelude.{ℕ, ◌+◌, ◌-◌, Bool, min, max, ◌==◌, ◌&&◌, not, nat_le, nat_lt, if◌then◌else◌}
use Rattle.vt_screen.specs.Grid.{is_within}
use Rattle.vt_term.specs.State.{at_place, bottom_row, last_column}
use Rattle.vt_term.specs.Parameters.{from_one}
use Rattle.vt_term.specs.Moving.{row_of_line, cursor_up, cursor_down, are_margins, bottom_margin}
use Rattle.vt_term.specs.Modes.{with_modes}
use Rattle.vt_xterm_display.specs.declared.sides.Sides.{Sides}
use Rattle.vt_xterm_display.specs.State.{Shown, XtermState, moved}

-- the cursor's column is between the margins
abbrev pub is_between : Sides → Shown → Bool
is_between m s = is_within m.left m.right s.cursor.col

-- the last column that the cursor reaches: the right margin, or from right of it the last column of the screen
abbrev pub last_reached : Sides → Shown → ℕ
last_reached m s = if nat_le s.cursor.col m.right then m.right else last_column s

-- the first column that the cursor reaches: the left margin, or from left of it column 1
abbrev pub first_reached : Sides → Shown → ℕ
first_reached m s = if nat_le m.left s.cursor.col then m.left else 1

-- the column of a number: under DECOM counted from the left margin and not past the right one, otherwise not past the last column
abbrev pub column_of : Sides → ℕ → Shown → ℕ
column_of m n s = if s.modes.decom then min (m.left + n - 1) m.right else min n (last_column s)

-- home is column 1 of row 1, or under DECOM the left margin's column of the top margin's row
abbrev pub home : Sides → Shown → Shown
home m s = record s {
  cursor = at_place (if s.modes.decom then s.margins.top else 1) (if s.modes.decom then m.left else 1);
}

-- CR: to the left margin, or from left of it, without DECOM, to column 1
abbrev pub carriage_return : Sides → Shown → Shown
carriage_return m s = record s { cursor = at_place s.cursor.row (if s.modes.decom then m.left else first_reached m s) }

-- CUF
abbrev pub cursor_forward : ℕ → Sides → Shown → Shown
cursor_forward n m s = record s { cursor = at_place s.cursor.row (min (s.cursor.col + n) (last_reached m s)) }

-- CUB, and BS by one
abbrev pub cursor_backward : ℕ → Sides → Shown → Shown
cursor_backward n m s = record s { cursor = at_place s.cursor.row (max (s.cursor.col - n) (first_reached m s)) }

-- CUP and HVP
abbrev pub cursor_position : ℕ → ℕ → Sides → Shown → Shown
cursor_position line col m s =
    record s { cursor = at_place (row_of_line (from_one line) s) (column_of m (from_one col) s) }

-- CHA and HPA
abbrev pub cursor_character_absolute : ℕ → Sides → Shown → Shown
cursor_character_absolute n m s = record s { cursor = at_place s.cursor.row (column_of m n s) }

-- HPR: not past the last column, or under DECOM not past the right margin
abbrev pub character_position_forward : ℕ → Sides → Shown → Shown
character_position_forward n m s = record s {
  cursor = at_place s.cursor.row (min (s.cursor.col + n) (if s.modes.decom then m.right else last_column s));
}

-- VPA: to line n, in the same column
abbrev pub line_position_absolute : ℕ → Sides → Shown → Shown
line_position_absolute n m s = record s { cursor = at_place (row_of_line n s) s.cursor.col }

-- VPR: down n, not past the last row, or under DECOM not past the bottom margin
abbrev pub line_position_forward : ℕ → Sides → Shown → Shown
line_position_forward n m s = record s {
  cursor = at_place (min (s.cursor.row + n) (if s.modes.decom then s.margins.bottom else bottom_row s)) s.cursor.col;
}

-- CUU and CUD, which the left and right margins don't bound
abbrev pub cursor_up_between : ℕ → Sides → Shown → Shown
cursor_up_between n m s = cursor_up n s

abbrev pub cursor_down_between : ℕ → Sides → Shown → Shown
cursor_down_between n m s = cursor_down n s

-- CNL and CPL: CUD or CUU, and then CR
abbrev pub cursor_next_line : ℕ → Sides → Shown → Shown
cursor_next_line n m s = carriage_return m (cursor_down n s)

abbrev pub cursor_preceding_line : ℕ → Sides → Shown → Shown
cursor_preceding_line n m s = carriage_return m (cursor_up n s)

-- under DECOM the cursor is brought between the margins, as its row is (this profile)
abbrev pub brought : Sides → Shown → Shown
brought m s =
    if s.modes.decom && not (is_between m s)
    then record s { cursor = at_place s.cursor.row (max m.left (min s.cursor.col m.right)) } else s

-- DECSTBM: parameters that aren't margins have no effect
abbrev pub set_margins : ℕ → ℕ → XtermState → XtermState
set_margins p1 p2 s =
    if are_margins (bottom_row s.shown) p1 p2
    then moved (λ m d. home m (record d { margins = record { top = from_one p1; bottom = bottom_margin (bottom_row d) p2 } })) s else s

-- DECSLRM: margins of at least two columns; 0 is column 1 and the last column, which also is what is past it
abbrev pub right_margin : ℕ → ℕ → ℕ
right_margin last p = if p == 0 then last else min p last

abbrev pub are_sides : ℕ → ℕ → ℕ → Bool
are_sides last p1 p2 = nat_lt (from_one p1) (right_margin last p2)

abbrev pub sides_of : ℕ → ℕ → ℕ → Sides
sides_of last p1 p2 = record { left = from_one p1; right = right_margin last p2 }

-- the cursor goes home; parameters that aren't margins have no effect (VT510 manual)
abbrev pub set_sides : ℕ → ℕ → XtermState → XtermState
set_sides p1 p2 s =
    if are_sides (last_column s.shown) p1 p2
    then moved home (record s { sides = sides_of (last_column s.shown) p1 p2 }) else s

-- DECOM: home is between the margins
abbrev pub origin_mode : Bool → Sides → Shown → Shown
origin_mode on m s = home m (with_modes (λ x. record x { decom = on }) s)
