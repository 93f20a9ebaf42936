-- Rows that move between all four margins. What comes in has the pen's background. (ECMA-48 and VT510 manual by the mnemonics; where these leave a
-- case open, xterm 379)
use Rattle.std.specs.Prelude.{ℕ, ◌+◌, ◌-◌, Bool, true, false, min, max, ◌==◌, ◌&&◌, if◌then◌else◌}
use Rattle.vt_term.specs.State.{at_place, bottom_row}
use Rattle.vt_term.specs.Editing.{is_inside}
use Rattle.vt_wide.specs.Edits.{moved_up, moved_down}
use Rattle.vt_xterm_cell.specs.Words.{CellParts}
use Rattle.vt_xterm_cell.specs.Cells.{blank_cell, erased_cell}
use Rattle.vt_xterm_cell.specs.Wide.{xterm_wide}
use Rattle.vt_xterm_display.specs.declared.sides.Sides.{Sides}
use Rattle.vt_xterm_display.specs.State.{Grid, Shown, XtermState, moved}
use Rattle.vt_xterm_display.specs.Moving.{is_between, carriage_return}

-- the cell that comes in
abbrev pub incoming : Shown → CellParts
incoming s = erased_cell s.brush

-- the rows from one to the bottom margin move up, or down
abbrev pub rows_up_from : ℕ → ℕ → Sides → Shown → Grid
rows_up_from top n m s = moved_up xterm_wide blank_cell (incoming s) s.grid top s.margins.bottom m.left m.right n

abbrev pub rows_down_from : ℕ → ℕ → Sides → Shown → Grid
rows_down_from top n m s = moved_down xterm_wide blank_cell (incoming s) s.grid top s.margins.bottom m.left m.right n

-- IND: down by one, staying at the last row; at the bottom margin the rows move up, if the cursor is between the left and the right one
abbrev pub index : Sides → Shown → Shown
index m s = record s {
  grid = if s.cursor.row == s.margins.bottom && is_between m s then rows_up_from s.margins.top 1 m s else s.grid;
  cursor = at_place (if s.cursor.row == s.margins.bottom then s.cursor.row else min (s.cursor.row + 1) (bottom_row s))
      s.cursor.col;
}

-- RI: up by one, staying at row 1; at the top margin the rows move down, if the cursor is between the left and the right one
abbrev pub reverse_index : Sides → Shown → Shown
reverse_index m s = record s {
  grid = if s.cursor.row == s.margins.top && is_between m s then rows_down_from s.margins.top 1 m s else s.grid;
  cursor = at_place (if s.cursor.row == s.margins.top then s.cursor.row else max (s.cursor.row - 1) 1) s.cursor.col;
}

-- NEL: IND, and then CR (xterm 379)
abbrev pub next_line : Sides → Shown → Shown
next_line m s = carriage_return m (index m s)

-- LF, VT and FF: IND, and under LNM NEL
abbrev pub line_feed : Sides → Shown → Shown
line_feed m s = if s.modes.lnm then next_line m s else index m s

-- SU and SD: wherever the cursor is, which stays
abbrev pub rows_up : ℕ → Sides → Shown → Shown
rows_up n m s = record s { grid = rows_up_from s.margins.top n m s }

abbrev pub rows_down : ℕ → Sides → Shown → Shown
rows_down n m s = record s { grid = rows_down_from s.margins.top n m s }

-- IL and DL, which need a cursor between all four margins: it goes to the left one. Elsewhere they have no effect (xterm 379)
abbrev pub is_enclosed : Sides → Shown → Bool
is_enclosed m s = is_inside s && is_between m s

abbrev pub line_edited : (Sides → Shown → Grid) → Sides → Shown → Shown
line_edited edit m s = record s { grid = edit m s; cursor = at_place s.cursor.row m.left }

abbrev pub if_enclosed : (Sides → Shown → Grid) → XtermState → XtermState
if_enclosed edit s = if is_enclosed s.sides s.shown then moved (line_edited edit) s else s

abbrev pub insert_line : ℕ → XtermState → XtermState
insert_line n = if_enclosed (λ m s. rows_down_from s.cursor.row n m s)

abbrev pub delete_line : ℕ → XtermState → XtermState
delete_line n = if_enclosed (λ m s. rows_up_from s.cursor.row n m s)
