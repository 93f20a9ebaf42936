-- The text of the screen. (docs/XTERM.md: Text)
use Rattle.std.specs.Prelude.{ℕ, ◌+◌, ◌*◌, List, flat_map}
use Rattle.std.specs.List.{range_with_len}
use Rattle.vt_screen.specs.declared.size.Size.{Size}
use Rattle.vt_screen.specs.Grid.{row_or}
use Rattle.vt_xterm_cell.specs.Cells.{blank_cell, row_text}
use Rattle.vt_xterm_display.specs.State.{Grid, XtermState}

-- the texts of the first rows
unfoldable pub rows_text : ℕ → Grid → List ℕ
rows_text count g = flat_map (λ r. row_text (row_or blank_cell g r)) (range_with_len 1 count)

-- the most bytes of the text of a row: three characters of four bytes for each cell of the wide screen, and LF
abbrev pub xterm_row_limit : Size → ℕ
xterm_row_limit size = 12 * size.wide + 1

-- the most bytes of a text
abbrev pub xterm_text_limit : Size → ℕ
xterm_text_limit size = size.rows * xterm_row_limit size

-- the rows of the page that is shown
abbrev pub text_of : XtermState → List ℕ
text_of s = rows_text s.shown.grid.size.rows s.shown.grid
