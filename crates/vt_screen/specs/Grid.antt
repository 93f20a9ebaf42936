-- The grid: the cells of all places, and its maps. A map is a formula for the new cell at each place.
-- Rows and columns count from 1. (EK-VT220-RM, chapter 4, and ECMA-48 8.3, for what each control function does)
use Rattle.std.specs.Coded.{Coded, code_by, coded×, coded_ℕ, coded_list}
use Rattle.std.specs.Prelude.{◌≡◌, refl, ℕ, ◌+◌, ◌-◌, ◌*◌, ◌/◌, ◌%◌, List, map, length, All, IsTrue, Bool, ◌&&◌, ◌==◌, nat_le}
use Rattle.std.specs.Prelude.{nat_lt, if◌then◌else◌, slice_index, slice_index_or, ◌||◌}
use Rattle.std.specs.List.{range_with_len}
use Rattle.vt_screen.specs.declared.cell.Cell.{Cell}
use Rattle.vt_screen.specs.Cells.{blank, erased, cell_like}
use Rattle.vt_screen.specs.declared.size.Size.{Size}
use Rattle.vt_screen.specs.Sizes.{vt220_size, width_of, IsSize, size_code}
use Rattle.vt_screen.specs.Kinds.{vt220_cells}

-- the rows of a VT220's screen
abbrev pub last_row : ℕ
last_row = vt220_size.rows

-- the columns of a VT220's narrow and wide screen
abbrev pub columns : Bool → ℕ
columns wide = width_of vt220_size wide

-- a size, a width, and the cells of all places, row by row
pub record GridOf (C : Type 0) : Type 0 where
  pub size : Size
  pub width : ℕ
  pub cells : List C

-- its code, for the models of screens
abbrev pub grid_code : {C : Type 0} → Coded C → Coded (GridOf C)
grid_code {C = C} cell = code_by (Size × (ℕ × List C)) (coded× size_code (coded× coded_ℕ (coded_list cell)))
    (λ g. (g.size, (g.width, g.cells))) (λ p. record { size = p.0; width = p.1.0; cells = p.1.1 }) (λ _. refl)

-- a grid of a VT220's cells
abbrev pub Grid : Type 0
Grid = GridOf Cell

-- the cells that a formula gives for the places
unfoldable pub cells_of : {C : Type 0} → Size → ℕ → (ℕ → ℕ → C) → List C
cells_of size width formula = map (λ k. formula (k / width + 1) (k % width + 1)) (range_with_len 0 (size.rows * width))

-- the grid that a formula gives
abbrev pub grid_of : {C : Type 0} → Size → ℕ → (ℕ → ℕ → C) → GridOf C
grid_of size width formula = record { size = size; width = width; cells = cells_of size width formula }

-- the cell at a place
unfoldable pub at_or : {C : Type 0} → C → GridOf C → ℕ → ℕ → C
at_or z g r c = slice_index_or g.cells ((r - 1) * g.width + (c - 1)) z

abbrev pub cell_at : Grid → ℕ → ℕ → Cell
cell_at = at_or blank

-- the cells of a row, from its first column to its last
unfoldable pub row_or : {C : Type 0} → C → GridOf C → ℕ → List C
row_or z g r = map (at_or z g r) (range_with_len 1 g.width)

abbrev pub row_of : Grid → ℕ → List Cell
row_of = row_or blank

-- one of the two widths, and one cell for each place
pub record IsGrid {C : Type 0} (g : GridOf C) : Type 0 where
  pub size : IsSize g.size
  pub width : (wide : Bool) × (g.width ≡ width_of g.size wide)
  pub cells : length g.cells ≡ g.size.rows * g.width

-- one of the two widths, one cell for each place, and one of the 204 glyphs in each
pub record IsSoundGridOf {C : Type 0} (shown : C → Bool) (g : GridOf C) : Type 0 where
  pub shape : IsGrid g
  pub glyphs : All (λ cell. IsTrue (shown cell)) g.cells

abbrev pub IsSoundGrid : Grid → Type 0
IsSoundGrid g = IsSoundGridOf vt220_cells.shown g

-- each cell passes a test
abbrev pub AllCells : {C : Type 0} → (C → Bool) → GridOf C → Type 0
AllCells test g = All (λ cell. IsTrue (test cell)) g.cells

-- a number is from a to b, both included
abbrev pub is_within : ℕ → ℕ → ℕ → Bool
is_within a b n = nat_le a n && nat_le n b

-- ---- every place

-- a narrow or a wide grid, all blank (DECCOLM)
abbrev pub blank_grid : Size → Bool → Grid
blank_grid size wide = grid_of size (width_of size wide) (λ r c. blank)

-- one cell everywhere (DECALN)
abbrev pub fill : Grid → Cell → Grid
fill g cell = grid_of g.size g.width (λ r c. cell)

-- ---- one row

-- a row gets the cells that a formula gives for its columns; the other rows stay
abbrev pub with_row : Grid → ℕ → (ℕ → Cell) → Grid
with_row g row formula = grid_of g.size g.width (λ r c. if r == row then formula c else cell_at g r c)

-- the cell at a place is written over
abbrev pub put : Grid → ℕ → ℕ → Cell → Grid
put g row col cell = with_row g row (λ c. if c == col then cell else cell_at g row c)

-- a cell comes in at a place; those at and after it move right, and the last one is lost (IRM, ECMA-48 7.2)
abbrev pub put_inserting : Grid → ℕ → ℕ → Cell → Grid
put_inserting g row col cell = with_row g row (λ c.
    if c == col then cell else (if nat_lt col c then cell_at g row (c - 1) else cell_at g row c))

-- glyphs are written starting at a place, each like the given cell
abbrev pub put_run : Grid → ℕ → ℕ → List ℕ → Cell → Grid
put_run g row col glyphs like = with_row g row (λ c.
    if nat_le col c && nat_lt c (col + length glyphs) then cell_like like (slice_index glyphs (c - col)) else cell_at g
    row c)

-- n blank cells come in at a place; those at and after it move right, and what passes the last column is lost
-- (ICH, ECMA-48 8.3.64)
abbrev pub insert_cells : Grid → ℕ → ℕ → ℕ → Grid
insert_cells g row col n = with_row g row (λ c.
    if nat_le (col + n) c then cell_at g row (c - n) else (if nat_le col c then blank else cell_at g row c))

-- n cells go, starting at a place; those after them move left, and blank cells come in at the last column
-- (DCH, ECMA-48 8.3.26)
abbrev pub delete_cells : Grid → ℕ → ℕ → ℕ → Grid
delete_cells g row col n = with_row g row (λ c.
    if nat_le col c then (if nat_le (c + n) g.width then cell_at g row (c + n) else blank) else cell_at g row c)

-- ---- places

-- the places of an area are erased (ED, EL, ECH, ECMA-48 8.3.39, 8.3.41, 8.3.38; selectively DECSED, DECSEL)
abbrev pub erase_area : Grid → (ℕ → ℕ → Bool) → Bool → Grid
erase_area g area selective = grid_of g.size g.width (λ r c. if area r c then erased selective (cell_at g r c) else cell_at g
    r c)

-- some columns of one row
abbrev pub columns_of : ℕ → ℕ → ℕ → ℕ → ℕ → Bool
columns_of row from to r c = r == row && is_within from to c

-- some columns of a row are erased, both ends included
abbrev pub erase : Grid → ℕ → ℕ → ℕ → Bool → Grid
erase g row from to selective = erase_area g (columns_of row from to) selective

-- the places from one to another, in the order of reading
abbrev pub span_of : ℕ → ℕ → ℕ → ℕ → ℕ → ℕ → Bool
span_of row col to_row to_col r c =
    (nat_lt row r || (r == row && nat_le col c)) && (nat_lt r to_row || (r == to_row && nat_le c to_col))

-- ---- several rows

-- the rows from top to bottom move up by n; blank rows come in below them (IND; DL, ECMA-48 8.3.32)
abbrev pub scroll_up : Grid → ℕ → ℕ → ℕ → Grid
scroll_up g top bottom n = grid_of g.size g.width (λ r c.
    if is_within top bottom r then (if nat_le (r + n) bottom then cell_at g (r + n) c else blank) else cell_at g r c)

-- the rows from top to bottom move down by n; blank rows come in above them (RI, IL, ECMA-48 8.3.104, 8.3.67)
abbrev pub scroll_down : Grid → ℕ → ℕ → ℕ → Grid
scroll_down g top bottom n = grid_of g.size g.width (λ r c.
    if is_within top bottom r then (if nat_le (top + n) r then cell_at g (r - n) c else blank) else cell_at g r c)

-- ---- another size

-- the cells of a row of another grid are written over those of a row, as many as both have
abbrev pub row_from : Grid → ℕ → Grid → ℕ → Grid
row_from g row other from = with_row g row (λ c. if nat_le c other.width then cell_at other from c else cell_at g row c)

-- the width of a grid on a screen of another size: that of its wide form if the grid is wide, otherwise of the narrow
-- one
abbrev pub width_on : Size → Grid → ℕ
width_on size g = width_of size (g.width == g.size.wide)

-- a grid on a screen of another size, after its first rows have left at the top: the rows and columns that both have
-- stay, from the top left, and the others are blank (xterm; the two widths are this profile's)
abbrev pub grid_on : Size → ℕ → Grid → Grid
grid_on size off g = grid_of size (width_on size g) (λ r c.
    if nat_le (r + off) g.size.rows && nat_le c g.width then cell_at g (r + off) c else blank)

-- ---- cells of any kind: what is outside of a grid reads as z, and what comes in is an argument

abbrev pub row_any : {C : Type 0} → C → GridOf C → ℕ → (ℕ → C) → GridOf C
row_any z g row formula = grid_of g.size g.width (λ r c. if r == row then formula c else at_or z g r c)

abbrev pub put_any : {C : Type 0} → C → GridOf C → ℕ → ℕ → C → GridOf C
put_any z g row col cell = row_any z g row (λ c. if c == col then cell else at_or z g row c)

abbrev pub put_inserting_any : {C : Type 0} → C → GridOf C → ℕ → ℕ → C → GridOf C
put_inserting_any z g row col cell = row_any z g row (λ c.
    if c == col then cell else (if nat_lt col c then at_or z g row (c - 1) else at_or z g row c))

abbrev pub insert_any : {C : Type 0} → C → C → GridOf C → ℕ → ℕ → ℕ → GridOf C
insert_any z cell g row col n = row_any z g row (λ c.
    if nat_le (col + n) c then at_or z g row (c - n) else (if nat_le col c then cell else at_or z g row c))

abbrev pub delete_any : {C : Type 0} → C → C → GridOf C → ℕ → ℕ → ℕ → GridOf C
delete_any z cell g row col n = row_any z g row (λ c.
    if nat_le col c then (if nat_le (c + n) g.width then at_or z g row (c + n) else cell) else at_or z g row c)

-- the places of an area are changed by a function of cells
abbrev pub changed_any : {C : Type 0} → C → (C → C) → GridOf C → (ℕ → ℕ → Bool) → GridOf C
changed_any z change g area = grid_of g.size g.width (λ r c. if area r c then change (at_or z g r c) else at_or z g r c)

abbrev pub scroll_up_any : {C : Type 0} → C → C → GridOf C → ℕ → ℕ → ℕ → GridOf C
scroll_up_any z cell g top bottom n = grid_of g.size g.width (λ r c.
    if is_within top bottom r then (if nat_le (r + n) bottom then at_or z g (r + n) c else cell) else at_or z g r c)

abbrev pub scroll_down_any : {C : Type 0} → C → C → GridOf C → ℕ → ℕ → ℕ → GridOf C
scroll_down_any z cell g top bottom n = grid_of g.size g.width (λ r c.
    if is_within top bottom r then (if nat_le (top + n) r then at_or z g (r - n) c else cell) else at_or z g r c)

abbrev pub blank_any : {C : Type 0} → C → Size → Bool → GridOf C
blank_any cell size wide = grid_of size (width_of size wide) (λ r c. cell)

abbrev pub fill_any : {C : Type 0} → GridOf C → C → GridOf C
fill_any g cell = grid_of g.size g.width (λ r c. cell)

abbrev pub row_from_any : {C : Type 0} → C → GridOf C → ℕ → GridOf C → ℕ → GridOf C
row_from_any z g row other from =
    row_any z g row (λ c. if nat_le c other.width then at_or z other from c else at_or z g row c)

abbrev pub width_on_any : {C : Type 0} → Size → GridOf C → ℕ
width_on_any size g = width_of size (g.width == g.size.wide)

abbrev pub grid_on_any : {C : Type 0} → C → Size → ℕ → GridOf C → GridOf C
grid_on_any z size off g = grid_of size (width_on_any size g) (λ r c.
    if nat_le (r + off) g.size.rows && nat_le c g.width then at_or z g (r + off) c else z)
