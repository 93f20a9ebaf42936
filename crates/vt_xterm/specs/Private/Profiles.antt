-- An xterm whose left and right margins bound nothing, as a profile: its screens are the display and the pages, and a graphic byte is a
-- VT220's.
use Rattle.std.proofs.Common.{refl}
use Rattle.vt_term.specs.State.{Display}
use Rattle.vt_term.specs.Sound.{IsSoundDisplayAt}
use Rattle.vt_term.specs.Pages.{IsSoundPageAt}
use Rattle.vt_term.specs.Machines.{Machine, PrintsAlike}
use Rattle.vt_term.specs.Reports.{report}
use Rattle.vt_xterm.specs.Pages.{PagesState, Screens}
use Rattle.vt_xterm.specs.Front.{screen_effect}

abbrev pub screens_on : Display → PagesState → Screens
screens_on display pages = record { display = display; pages = pages }

abbrev pub unbounded : Machine Screens
unbounded = record { display = λ s. s.display; effect = screen_effect; report = λ event s. report event s.display }

pub unbounded_prints : PrintsAlike unbounded screens_on
unbounded_prints = record { display = λ d k. refl; effect = λ b d k. refl; report = λ b s. refl }

-- the display and the page that isn't shown are sound, and of one size
abbrev pub AreOfOneSize : Screens → Type 0
AreOfOneSize s = IsSoundDisplayAt s.display.grid.size s.display × IsSoundPageAt s.display.grid.size s.pages.other
