-- No row of either page parts a wide character. (docs/XTERM.md: The cell)
use Rattle.std.specs.Prelude.{ℕ, ◌+◌, Bool, not}
use Rattle.vt_wide.specs.Edits.{is_parted}
use Rattle.vt_wide.specs.Whole.{IsWhole}
use Rattle.vt_xterm_cell.specs.Cells.{blank_cell}
use Rattle.vt_xterm_cell.specs.Wide.{xterm_wide}
use Rattle.vt_xterm_display.specs.State.{Grid, XtermState}

-- the right margin parts no character of a row
unfoldable pub parts_none : Grid → ℕ → ℕ → Bool
parts_none g row right = not (is_parted xterm_wide blank_cell g row (right + 1))

pub record IsKept (s : XtermState) : Type 0 where
  pub shown_whole : IsWhole xterm_wide blank_cell s.shown.grid
  pub other_whole : IsWhole xterm_wide blank_cell s.other.grid
