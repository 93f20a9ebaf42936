-- Moves of cells between left and right margins. A map is a formula for the new cell at each place. What is outside of a
-- grid reads as z, and what comes in is an argument. (VT510 manual: DECLRMM and DECSLRM, and IND, RI, SU, SD, IL, DL, ICH,
-- DCH and IRM, which they bound)
use Rattle.std.specs.Prelude.{ℕ, ◌+◌, ◌-◌, Bool, ◌&&◌, nat_le, if◌then◌else◌}
use Rattle.vt_screen.specs.declared.cell.Cell.{Cell}
use Rattle.vt_screen.specs.Cells.{blank}
use Rattle.vt_screen.specs.Grid.{Grid, GridOf, grid_of, at_or, is_within, columns_of}

-- the places of an area get the cells that a formula gives; the others stay
abbrev pub given_any : {C : Type 0} → C → GridOf C → (ℕ → ℕ → Bool) → (ℕ → ℕ → C) → GridOf C
given_any z g area formula = grid_of g.size g.width (λ r c. if area r c then formula r c else at_or z g r c)

-- a place is in these rows and in these columns, both ends included
abbrev pub rectangle : ℕ → ℕ → ℕ → ℕ → ℕ → ℕ → Bool
rectangle top bottom left right r c = is_within top bottom r && is_within left right c

-- ---- several rows

-- the cell n rows below, down to the bottom row, or else the one that comes in
abbrev pub from_below_any : {C : Type 0} → C → C → GridOf C → ℕ → ℕ → ℕ → ℕ → C
from_below_any z cell g bottom n r c = if nat_le (r + n) bottom then at_or z g (r + n) c else cell

-- the rows move up by n, between the columns (IND, SU, DL)
abbrev pub columns_up_any : {C : Type 0} → C → C → GridOf C → ℕ → ℕ → ℕ → ℕ → ℕ → GridOf C
columns_up_any z cell g top bottom left right n = given_any z g (rectangle top bottom left right) (from_below_any z cell g bottom n)

-- the cell n rows above, up to the top row, or else the one that comes in
abbrev pub from_above_any : {C : Type 0} → C → C → GridOf C → ℕ → ℕ → ℕ → ℕ → C
from_above_any z cell g top n r c = if nat_le (top + n) r then at_or z g (r - n) c else cell

-- the rows move down by n, between the columns (RI, SD, IL)
abbrev pub columns_down_any : {C : Type 0} → C → C → GridOf C → ℕ → ℕ → ℕ → ℕ → ℕ → GridOf C
columns_down_any z cell g top bottom left right n = given_any z g (rectangle top bottom left right) (from_above_any z cell g top n)

-- ---- one row

-- the cell n columns to the left, up to a column, or else the one that comes in
abbrev pub from_left_any : {C : Type 0} → C → C → GridOf C → ℕ → ℕ → ℕ → ℕ → C
from_left_any z cell g col n r c = if nat_le (col + n) c then at_or z g r (c - n) else cell

-- n cells come in at a place; those at and after it move right, and what passes the right margin is lost (ICH)
abbrev pub insert_between_any : {C : Type 0} → C → C → GridOf C → ℕ → ℕ → ℕ → ℕ → GridOf C
insert_between_any z cell g row col right n = given_any z g (columns_of row col right) (from_left_any z cell g col n)

-- the cell n columns to the right, up to the right margin, or else the one that comes in
abbrev pub from_right_any : {C : Type 0} → C → C → GridOf C → ℕ → ℕ → ℕ → ℕ → C
from_right_any z cell g right n r c = if nat_le (c + n) right then at_or z g r (c + n) else cell

-- n cells go, starting at a place; those after them move left, and cells come in at the right margin (DCH)
abbrev pub delete_between_any : {C : Type 0} → C → C → GridOf C → ℕ → ℕ → ℕ → ℕ → GridOf C
delete_between_any z cell g row col right n = given_any z g (columns_of row col right) (from_right_any z cell g right n)

-- ---- a VT220's cells: what comes in is blank

abbrev pub columns_up : Grid → ℕ → ℕ → ℕ → ℕ → ℕ → Grid
columns_up = columns_up_any blank blank

abbrev pub columns_down : Grid → ℕ → ℕ → ℕ → ℕ → ℕ → Grid
columns_down = columns_down_any blank blank

abbrev pub insert_between : Grid → ℕ → ℕ → ℕ → ℕ → Grid
insert_between = insert_between_any blank blank

abbrev pub delete_between : Grid → ℕ → ℕ → ℕ → ℕ → Grid
delete_between = delete_between_any blank blank

-- a cell comes in at a place, as in insert mode (IRM)
abbrev pub put_between : Grid → ℕ → ℕ → ℕ → Cell → Grid
put_between g row col right cell = insert_between_any blank cell g row col right 1
