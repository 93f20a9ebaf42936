-- An xterm on a screen of another size. (docs/XTERM.md: Size; xterm, if its window changes and it keeps no lines that left the screen, but for
-- what names another source)
use Rattle.std.specs.Prelude.{ℕ, ◌-◌, ◌==◌, ◌&&◌, if◌then◌else◌}
use Rattle.vt_screen.specs.Grid.{changed_any, grid_on_any, width_on_any}
use Rattle.vt_screen.specs.declared.size.Size.{Size}
use Rattle.vt_term.specs.Resizing.{is_as_large, count_off, saved_on, display_on_any}
use Rattle.vt_xterm_cell.specs.Words.{CellParts}
use Rattle.vt_xterm_cell.specs.Cells.{blank_cell, space_with}
use Rattle.vt_xterm_display.specs.State.{Grid, Shown, PageState, XtermState, full_sides}
use Rattle.vt_xterm_display.specs.Session.{Session}

-- the first cell of a wide character whose second cell is cut becomes a space with its look (this profile)
abbrev pub halved : CellParts → CellParts
halved cell = if cell.wide then space_with cell.look else cell

-- in the last column
abbrev pub edged : Grid → Grid
edged g = changed_any blank_cell halved g (λ r c. c == g.width)

-- a page after its first rows have left at the top; what comes in is plain
abbrev pub xterm_grid_on : Size → ℕ → Grid → Grid
xterm_grid_on size off g = edged (grid_on_any blank_cell size off g)

abbrev pub xterm_page_on : Size → ℕ → PageState → PageState
xterm_page_on size off page = record {
  grid = xterm_grid_on size off page.grid;
  saved = saved_on size.rows (width_on_any size page.grid) off page.saved;
}

-- the rows that leave the main page: by its own cursor, which is the place that was saved on it while it isn't shown (tmux)
abbrev pub xterm_off : Size → XtermState → ℕ
xterm_off size s = if s.alternate then s.other.saved.row - size.rows else count_off size s.shown

-- the page that is shown goes by the cursor
abbrev pub shown_on : Size → Shown → Shown
shown_on size s = record (display_on_any blank_cell size s) { grid = xterm_grid_on size (count_off size s) s.grid }

-- the left and right margins stay on a screen that is as large. Another one has full margins, and no wrap is pending at the right one (this
-- profile). As many rows leave the page that isn't shown as leave the main page. Everything else stays
abbrev pub xterm_on : Size → XtermState → XtermState
xterm_on size s = record s {
  shown = shown_on size s.shown;
  other = xterm_page_on size (xterm_off size s) s.other;
  sides = if is_as_large size s.shown then s.sides else full_sides (width_on_any size s.shown.grid);
  waits = s.waits && is_as_large size s.shown;
}

-- what is read of an unfinished sequence and of an unfinished character stays
abbrev pub session_on : Size → Session → Session
session_on size s = record s { screen = xterm_on size s.screen }
