-- Which states a repaint rebuilds, and what that means. (this profile)
use Rattle.std.specs.Prelude.{◌≡◌, ℕ, List, []}
use Rattle.vt_syntax.specs.declared.held.Held.TheVariants.{Nothing}
use Rattle.vt_term.specs.Sound.{IsSoundDisplayOf}
use Rattle.vt_feed.specs.Languages.{reading}
use Rattle.vt_feed.specs.Spelled.{IsReading}
use Rattle.vt_xterm_cell.specs.Kinds.{xterm_cells}
use Rattle.vt_xterm_display.specs.Sound.{IsSoundPageAt, IsSoundXterm}
use Rattle.vt_xterm_display.specs.State.{XtermState}
use Rattle.vt_xterm_display.specs.Session.{Session, PlaysXterm}
use Rattle.vt_xterm_repaint.specs.Repaint.{repaint}
use Rattle.vt_xterm_repaint.specs.Colours.{HasColours}

-- a sound state, of whose looks the colours are bytes
pub record CanBeMade (w : XtermState) : Type 0 where
  pub display : IsSoundDisplayOf xterm_cells.shown w.shown.grid.size w.shown
  pub other : IsSoundPageAt w.shown.grid.size w.other
  pub sound : IsSoundXterm w
  pub look : HasColours w.shown.brush
  pub saved : HasColours w.shown.saved.brush
  pub other_saved : HasColours w.other.saved.brush

-- the bytes of a repaint leave the state, with nothing held or pending, on each session of its size, whatever that was reading. They report
-- nothing
abbrev pub Rebuilds : XtermState → Type 0
Rebuilds w = (u : Session) (before : List ℕ) → IsReading u.reading → u.screen.shown.grid.size ≡ w.shown.grid.size
    → PlaysXterm u (repaint w) (record { screen = w; reading = reading Nothing [] }) before before
