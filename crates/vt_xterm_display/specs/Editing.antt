-- Erasing, inserting and deleting characters. A wide character that an edit parts goes as a whole. What comes in has the pen's background.
-- (ECMA-48 and EK-VT220-RM by the mnemonics; docs/XTERM.md: What comes in, Parted)
use Rattle.std.specs.Prelude.{ℕ, ◌+◌, ◌-◌, Bool, false, min, ◌==◌, if◌then◌else◌}
use Rattle.vt_screen.specs.Kinds.{erased_any}
use Rattle.vt_term.specs.State.{bottom_row, last_column}
use Rattle.vt_term.specs.Editing.{with_grid, names_area}
use Rattle.vt_wide.specs.Edits.{erased, erased_span, inserted, deleted}
use Rattle.vt_xterm_cell.specs.Words.{CellParts}
use Rattle.vt_xterm_cell.specs.Cells.{blank_cell}
use Rattle.vt_xterm_cell.specs.Kinds.{xterm_cells}
use Rattle.vt_xterm_cell.specs.Wide.{xterm_wide}
use Rattle.vt_xterm_display.specs.declared.sides.Sides.{Sides}
use Rattle.vt_xterm_display.specs.State.{Grid, Shown, XtermState, moved}
use Rattle.vt_xterm_display.specs.Moving.{is_between}
use Rattle.vt_xterm_display.specs.Rows.{incoming}

-- what erasing makes of a cell: selectively only of an unprotected one
abbrev pub change : Bool → Shown → CellParts → CellParts
change selective s = erased_any xterm_cells selective (incoming s)

-- columns of the cursor's row are erased
abbrev pub with_erased : Bool → ℕ → ℕ → Shown → Shown
with_erased selective from to s =
    with_grid (erased xterm_wide blank_cell (change selective s) s.grid s.cursor.row from to) s

-- places are erased, from one to another in the order of reading
abbrev pub with_erased_span : Bool → ℕ → ℕ → ℕ → ℕ → Shown → Shown
with_erased_span selective row col to_row to_col s =
    with_grid (erased_span xterm_wide blank_cell (change selective s) s.grid row col to_row to_col) s

-- ECH: n characters starting at the cursor, not past the last column
abbrev pub erase_character : ℕ → Sides → Shown → Shown
erase_character n m s = with_erased false s.cursor.col (min (s.cursor.col + n - 1) (last_column s)) s

-- EL and DECSEL: 0 the cursor and what is right of it, 1 the cursor and what is left of it, 2 the row
abbrev pub erase_in_line : Bool → ℕ → XtermState → XtermState
erase_in_line selective p s =
    if p == 0 then moved (λ m d. with_erased selective d.cursor.col (last_column d) d) s else (
    if p == 1 then moved (λ m d. with_erased selective 1 d.cursor.col d) s else (
    if p == 2 then moved (λ m d. with_erased selective 1 (last_column d) d) s else s))

-- ED and DECSED: 0 the cursor and what is after it, 1 the cursor and what is before it, 2 the screen
abbrev pub erase_in_display : Bool → ℕ → XtermState → XtermState
erase_in_display selective p s =
    if p == 0 then moved (λ m d. with_erased_span selective d.cursor.row d.cursor.col (bottom_row d) (last_column d) d) s else (
    if p == 1 then moved (λ m d. with_erased_span selective 1 1 d.cursor.row d.cursor.col d) s else (
    if p == 2 then moved (λ m d. with_erased_span selective 1 1 (bottom_row d) (last_column d) d) s else s))

-- ICH: between the margins, up to the right one; elsewhere it only resets a pending wrap
abbrev pub insert_character : ℕ → Sides → Shown → Shown
insert_character n m s = with_grid (
    if is_between m s then inserted xterm_wide blank_cell (incoming s) s.grid s.cursor.row s.cursor.col m.right n else s.grid) s

-- DCH: between the margins, up to the right one; elsewhere it has no effect (xterm 379)
abbrev pub with_deleted : ℕ → Sides → Shown → Shown
with_deleted n m s =
    with_grid (deleted xterm_wide blank_cell (incoming s) s.grid s.cursor.row s.cursor.col m.right n) s

abbrev pub delete_character : ℕ → XtermState → XtermState
delete_character n s = if is_between s.sides s.shown then moved (with_deleted n) s else s
