-- Inserting, deleting and erasing. Each of these resets the wrap flag, but for a parameter that isn't listed.
-- (EK-VT220-RM, chapter 4, by the mnemonics, and ECMA-48 by its sections; the flag is this profile's)
use Rattle.std.specs.Prelude.{ℕ, ◌+◌, ◌-◌, min, Bool, false, ◌==◌, ◌&&◌, ◌||◌, nat_lt, nat_le, if◌then◌else◌}
use Rattle.vt_screen.specs.Grid.{GridOf, is_within, scroll_up_any, scroll_down_any, insert_any, delete_any, changed_any, columns_of}
use Rattle.vt_screen.specs.Kinds.{erased_any}
use Rattle.vt_term.specs.Kinds.{KindOf}
use Rattle.vt_term.specs.Rendition.{vt220_kind}
use Rattle.vt_term.specs.declared.state.Cursor.{Cursor}
use Rattle.vt_term.specs.State.{DisplayOf, Display, at_place, last_column}

-- the grid is changed, and the wrap flag reset
abbrev pub with_grid : {C B : Type 0} → GridOf C → DisplayOf C B → DisplayOf C B
with_grid grid s = record s { grid = grid; cursor = record s.cursor { wrap = false } }

-- the cursor's row is inside the margins
abbrev pub is_inside : {C B : Type 0} → DisplayOf C B → Bool
is_inside s = is_within s.margins.top s.margins.bottom s.cursor.row

-- IL and DL: inside the margins, the cursor goes to column 1 (EK-VT220-RM)
abbrev pub line_edited : {C B : Type 0} → GridOf C → DisplayOf C B → DisplayOf C B
line_edited grid s = record s {
  grid = if is_inside s then grid else s.grid;
  cursor = at_place s.cursor.row (if is_inside s then 1 else s.cursor.col);
}

-- IL: n blank rows come in at the cursor's row, above the bottom margin (ECMA-48 8.3.67)
abbrev pub insert_line_any : {C B : Type 0} → KindOf C B → ℕ → DisplayOf C B → DisplayOf C B
insert_line_any k n s = line_edited (scroll_down_any k.cells.blank (k.own.emptied s.brush) s.grid s.cursor.row s.margins.bottom n) s

-- DL: n rows go, starting at the cursor's row, above the bottom margin (ECMA-48 8.3.32)
abbrev pub delete_line_any : {C B : Type 0} → KindOf C B → ℕ → DisplayOf C B → DisplayOf C B
delete_line_any k n s = line_edited (scroll_up_any k.cells.blank (k.own.emptied s.brush) s.grid s.cursor.row s.margins.bottom n) s

-- ICH: n blank cells come in at the cursor (ECMA-48 8.3.64)
abbrev pub insert_character_any : {C B : Type 0} → KindOf C B → ℕ → DisplayOf C B → DisplayOf C B
insert_character_any k n s = with_grid (insert_any k.cells.blank (k.own.emptied s.brush) s.grid s.cursor.row s.cursor.col n) s

-- DCH: n cells go, starting at the cursor (ECMA-48 8.3.26)
abbrev pub delete_character_any : {C B : Type 0} → KindOf C B → ℕ → DisplayOf C B → DisplayOf C B
delete_character_any k n s = with_grid (delete_any k.cells.blank (k.own.emptied s.brush) s.grid s.cursor.row s.cursor.col n) s

-- the grid with an area that the brush erases
abbrev pub erased_area : {C B : Type 0} → KindOf C B → DisplayOf C B → (ℕ → ℕ → Bool) → Bool → GridOf C
erased_area k s area selective = changed_any k.cells.blank (erased_any k.cells selective (k.own.emptied s.brush)) s.grid area

-- ECH: n cells starting at the cursor become blank, not past the last column (ECMA-48 8.3.38)
abbrev pub erase_character_any : {C B : Type 0} → KindOf C B → ℕ → DisplayOf C B → DisplayOf C B
erase_character_any k n s =
    with_grid (erased_area k s (columns_of s.cursor.row s.cursor.col (min (s.cursor.col + n - 1) (last_column s))) false) s

-- 0, 1 and 2 name areas (ED and EL, ECMA-48 8.3.39 and 8.3.41)
abbrev pub names_area : ℕ → Bool
names_area p = nat_le p 2

-- the area in the cursor's row: 0 the cursor and what is right of it, 1 the cursor and what is left of it, 2 all
abbrev pub line_area : ℕ → Cursor → ℕ → ℕ → Bool
line_area p cursor r c =
    r == cursor.row && (p == 2 || (p == 0 && nat_le cursor.col c) || (p == 1 && nat_le c cursor.col))

-- the area on the screen: that in the cursor's row, and for 0 the rows below, for 1 the rows above, for 2 both
abbrev pub display_area : ℕ → Cursor → ℕ → ℕ → Bool
display_area p cursor r c =
    p == 2 || (p == 0 && nat_lt cursor.row r) || (p == 1 && nat_lt r cursor.row) || line_area p cursor r c

-- ED (ECMA-48 8.3.39), and DECSED, which is selective (EK-VT220-RM)
abbrev pub erase_in_display_any : {C B : Type 0} → KindOf C B → Bool → ℕ → DisplayOf C B → DisplayOf C B
erase_in_display_any k selective p s =
    if names_area p then with_grid (erased_area k s (display_area p s.cursor) selective) s else s

-- EL (ECMA-48 8.3.41), and DECSEL, which is selective (EK-VT220-RM)
abbrev pub erase_in_line_any : {C B : Type 0} → KindOf C B → Bool → ℕ → DisplayOf C B → DisplayOf C B
erase_in_line_any k selective p s =
    if names_area p then with_grid (erased_area k s (line_area p s.cursor) selective) s else s

-- ---- on a VT220

abbrev pub insert_line : ℕ → Display → Display
insert_line n s = insert_line_any vt220_kind n s

abbrev pub delete_line : ℕ → Display → Display
delete_line n s = delete_line_any vt220_kind n s

abbrev pub insert_character : ℕ → Display → Display
insert_character n s = insert_character_any vt220_kind n s

abbrev pub delete_character : ℕ → Display → Display
delete_character n s = delete_character_any vt220_kind n s

abbrev pub erase_character : ℕ → Display → Display
erase_character n s = erase_character_any vt220_kind n s

abbrev pub erase_in_display : Bool → ℕ → Display → Display
erase_in_display selective p s = erase_in_display_any vt220_kind selective p s

abbrev pub erase_in_line : Bool → ℕ → Display → Display
erase_in_line selective p s = erase_in_line_any vt220_kind selective p s
