-- A terminal on a screen of another size. (xterm, if its window changes and it keeps no lines that left the screen. tmux: a saved place
-- moves with its row, and the page that isn't shown goes by its own cursor. This profile: a saved place is brought inside at once; a wrap
-- flag is in the last column alone; a column that comes in has the tab stop of power-up)
use Rattle.std.specs.Prelude.{ℕ, ◌+◌, ◌-◌, List, Bool, ◌==◌, ◌&&◌, min, max, nat_le, length, if◌then◌else◌}
use Rattle.vt_screen.specs.Cells.{blank}
use Rattle.vt_screen.specs.Grid.{width_on, width_on_any, grid_on, grid_on_any}
use Rattle.vt_screen.specs.declared.size.Size.{Size}
use Rattle.vt_term.specs.declared.state.Cursor.{Cursor}
use Rattle.vt_term.specs.declared.state.Margins.{Margins}
use Rattle.vt_term.specs.declared.state.Modes.{Modes}
use Rattle.vt_term.specs.declared.state.SavedOf.{SavedOf}
use Rattle.vt_term.specs.State.{DisplayOf, Display, State, bottom_row, last_column, margins_of, stops_where, has_stop_at, is_stop_at_power_up}
use Rattle.vt_term.specs.Pages.{PageState}
use Rattle.vt_term.specs.Text.{lines_text}

-- the rows that leave at the top: as many as the cursor would be below the last row
abbrev pub count_off : {C B : Type 0} → Size → DisplayOf C B → ℕ
count_off size s = s.cursor.row - size.rows

-- a column brought inside a screen of this width; from a wrap flag the next column, if the screen has it
abbrev pub col_on : ℕ → ℕ → Bool → ℕ
col_on width col wrap = min (if wrap then col + 1 else col) width

-- a wrap flag stays if its column is the last one, or cut
abbrev pub wrap_on : ℕ → ℕ → Bool → Bool
wrap_on width col wrap = wrap && nat_le width col

-- the cursor brought inside a screen of so many rows and columns
abbrev pub cursor_on : ℕ → ℕ → Cursor → Cursor
cursor_on rows width c = record { row = min c.row rows; col = col_on width c.col c.wrap; wrap = wrap_on width c.col c.wrap }

-- what DECSC saved: its place moves up with its row, after so many rows have left at the top, and is brought inside
abbrev pub saved_on : {B : Type 0} → ℕ → ℕ → ℕ → SavedOf B → SavedOf B
saved_on rows width off saved = record saved {
  row = min (max 1 (saved.row - off)) rows;
  col = col_on width saved.col saved.wrap;
  wrap = wrap_on width saved.col saved.wrap;
}

-- the stop of a column: the one that it had, or that of power-up if it comes in
abbrev pub is_stop_on : List Bool → ℕ → Bool
is_stop_on stops c = if nat_le c (length stops) then has_stop_at stops c else is_stop_at_power_up c

unfoldable pub stops_on : ℕ → List Bool → List Bool
stops_on columns stops = stops_where columns (is_stop_on stops)

-- a page after its first rows have left at the top
abbrev pub page_on : Size → ℕ → PageState → PageState
page_on size off page = record {
  grid = grid_on size off page.grid;
  saved = saved_on size.rows (width_on size page.grid) off page.saved;
}

-- the rows that leave a page by its saved place: as many as this would be below the last row
abbrev pub hidden_off : Size → PageState → ℕ
hidden_off size page = page.saved.row - size.rows

-- the screen has as many rows and columns as before
abbrev pub is_as_large : {C B : Type 0} → Size → DisplayOf C B → Bool
is_as_large size s = bottom_row s == size.rows && last_column s == width_on_any size s.grid

-- the margins stay on a screen that is as large, and another one has full margins
abbrev pub margins_on : {C B : Type 0} → Size → DisplayOf C B → Margins
margins_on size s = if is_as_large size s then s.margins else margins_of size

-- DECOM stays on a screen that is as large, and another one resets it
abbrev pub modes_on : {C B : Type 0} → Size → DisplayOf C B → Modes
modes_on size s = record s.modes { decom = s.modes.decom && is_as_large size s }

-- everything else stays, and the cells that come in are z
abbrev pub display_on_any : {C B : Type 0} → C → Size → DisplayOf C B → DisplayOf C B
display_on_any z size s = record s {
  grid = grid_on_any z size (count_off size s) s.grid;
  cursor = cursor_on size.rows (width_on_any size s.grid) s.cursor;
  margins = margins_on size s;
  stops = stops_on size.wide s.stops;
  modes = modes_on size s;
  saved = saved_on size.rows (width_on_any size s.grid) (count_off size s) s.saved;
}

abbrev pub display_on : Size → Display → Display
display_on = display_on_any blank

-- what is held of a sequence stays
abbrev pub state_on : Size → State → State
state_on size s = record s { display = display_on size s.display }

-- what a resize adds to the log: the texts of the rows that leave. (this profile)
abbrev pub log_on : Size → State → List ℕ
log_on size s = lines_text (count_off size s.display) s.display.grid

-- the same of a page that isn't shown, and goes by its saved place
abbrev pub hidden_log : Size → PageState → List ℕ
hidden_log size page = lines_text (hidden_off size page) page.grid
