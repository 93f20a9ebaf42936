-- A session on a screen of another size. (xterm, if its window changes and it keeps no lines that left the screen; tmux for the page that
-- isn't shown; what goes to the log is this profile's)
use Rattle.std.specs.Prelude.{ℕ, List, Option, if◌then◌else◌}
use Rattle.vt_screen.specs.Grid.{width_on}
use Rattle.vt_screen.specs.declared.size.Size.{Size}
use Rattle.vt_term.specs.State.{Display}
use Rattle.vt_term.specs.Pages.{PageState, page_of}
use Rattle.vt_term.specs.Resizing.{is_as_large, count_off, hidden_off, hidden_log, page_on, state_on, log_on}
use Rattle.vt_xterm.specs.declared.sides.Sides.{Sides}
use Rattle.vt_xterm.specs.Sides.{full_sides}
use Rattle.vt_xterm.specs.Pages.{PagesState, change_sides}
use Rattle.vt_xterm.specs.Play.{Whole, FrontState}

-- the left and right margins stay on a screen that is as large, and another one has full margins; DECLRMM stays
abbrev pub sides_on : Size → Display → Option Sides → Option Sides
sides_on size s sides = if is_as_large size s then sides else change_sides (λ m. full_sides (width_on size s.grid)) sides

-- the rows that leave the main page: by its own cursor, which is the place that was saved on it while it isn't shown
abbrev pub main_off : Size → Display → PagesState → ℕ
main_off size s pages = if pages.alternate then hidden_off size pages.other else count_off size s

-- the page that isn't shown: as many rows leave it as leave the main page
abbrev pub pages_on : Size → Display → PagesState → PagesState
pages_on size s pages = record pages {
  other = page_on size (main_off size s pages) pages.other;
  sides = sides_on size s pages.sides;
}

abbrev pub front_on : Size → Display → FrontState → FrontState
front_on size s front = record front { pages = pages_on size s front.pages }

abbrev pub whole_on : Size → Whole → Whole
whole_on size w = record { state = state_on size w.state; pages = pages_on size w.state.display w.pages }

-- the main page, whether it is shown or not
abbrev pub main_page : Whole → PageState
main_page w = if w.pages.alternate then w.pages.other else page_of w.state.display

-- the row of its own cursor: of the place that was saved on it, if it isn't shown
abbrev pub main_row : Whole → ℕ
main_row w = if w.pages.alternate then w.pages.other.saved.row else w.state.display.cursor.row

-- the log gets the rows that leave it
abbrev pub xterm_log_on : Size → Whole → List ℕ
xterm_log_on size w = if w.pages.alternate then hidden_log size w.pages.other else log_on size w.state
