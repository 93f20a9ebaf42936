-- A page: the cells of a screen, and what DECSC saved on it. A terminal shows one page, and a caller keeps another. (The
-- alternate screen buffer of xterm's control sequences, with a separate saved cursor; what becomes of a page of another width
-- is this profile's)
use Rattle.std.specs.Prelude.{◌≡◌, ℕ, Bool, true, false, ◌==◌, min, if◌then◌else◌}
use Rattle.vt_glyph.specs.GraphicSets.{AreSoundSets}
use Rattle.vt_screen.specs.Grid.{Grid, IsSoundGrid, blank_grid}
use Rattle.vt_screen.specs.Sizes.{width_of, vt220_size}
use Rattle.vt_screen.specs.declared.size.Size.{Size}
use Rattle.vt_term.specs.State.{Saved}
use Rattle.vt_term.specs.State.{Display, saved_sets, saved_at_power_up}
use Rattle.vt_term.specs.Sound.{IsPlace}

pub record PageState : Type 0 where
  pub grid : Grid
  pub saved : Saved

-- a page of this size is sound
pub record IsSoundPageAt (size : Size) (page : PageState) : Type 0 where
  pub of_size : page.grid.size ≡ size
  pub grid : IsSoundGrid page.grid
  pub saved : IsPlace size.rows page.grid.width page.saved.row page.saved.col page.saved.wrap
  pub saved_sets : AreSoundSets (saved_sets page.saved)

-- a page is sound at its own size
abbrev pub IsSoundSizedPage : PageState → Type 0
IsSoundSizedPage page = IsSoundPageAt page.grid.size page

-- a page of a VT220's size is sound
abbrev pub IsSoundPage : PageState → Type 0
IsSoundPage page = IsSoundPageAt vt220_size page

-- a narrow and blank page, with what is saved at power-up
abbrev pub blank_page : Size → PageState
blank_page size = record { grid = blank_grid size false; saved = saved_at_power_up }

-- blank cells; what was saved stays
abbrev pub blanked : PageState → PageState
blanked page = record page { grid = blank_grid page.grid.size (page.grid.width == page.grid.size.wide) }

-- what DECCOLM makes of a page: blank cells, the saved column inside the width, and no saved wrap flag
abbrev pub resized : Bool → PageState → PageState
resized wide page = record {
  grid = blank_grid page.grid.size wide;
  saved = record page.saved { col = min page.saved.col (width_of page.grid.size wide); wrap = false };
}

-- the page for a screen of this width: another width is changed as by DECCOLM
abbrev pub fitted : ℕ → PageState → PageState
fitted width page = if page.grid.width == width then page else resized (width == page.grid.size.wide) page

-- the page that a display shows
abbrev pub page_of : Display → PageState
page_of s = record { grid = s.grid; saved = s.saved }

-- another page is shown, and everything else stays
abbrev pub with_page : PageState → Display → Display
with_page page s = record s { grid = page.grid; saved = page.saved }
