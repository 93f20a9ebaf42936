-- The repaint of an xterm: one byte string for each state, which rebuilds it on any xterm of its size. (this profile)
use Rattle.std.specs.Prelude.{ℕ, List, [], ◌∷◌, ◌++◌, true, false, not}
use Rattle.vt_glyph.specs.Invocation.{sets_at_power_up}
use Rattle.vt_screen.specs.Same.{when}
use Rattle.vt_feed.specs.Actions.{Action, Function}
use Rattle.vt_feed.specs.Spelled.{spell}
use Rattle.vt_paint.specs.Controls.{private_mode, reset_to_initial_state}
use Rattle.vt_xterm_display.specs.State.{PageState, XtermState}
use Rattle.vt_xterm_repaint.specs.Looks.{look_actions}
use Rattle.vt_xterm_repaint.specs.Items.{functions, stops_item, sets_item, page_item, margins_item, cursor_item, modes_item, settings_item, shift_item}

abbrev pub page_shown : XtermState → PageState
page_shown s = record { grid = s.shown.grid; saved = s.shown.saved }

-- ?40, under which DECCOLM has an effect, and RIS
abbrev pub first_actions : List Action
first_actions = functions (private_mode 40 true ∷ reset_to_initial_state ∷ [])

-- the stops; the page that isn't shown, and the other one, by ?47
unfoldable pub pages_actions : XtermState → List Action
pages_actions s =
    stops_item s.shown.grid.size s.shown.stops
    ++ Function (private_mode 47 (not s.alternate)) ∷ (page_item s.other
    ++ Function (private_mode 47 s.alternate) ∷ page_item (page_shown s))

-- what both pages share
unfoldable pub last_actions : XtermState → List Action
last_actions s =
    margins_item s
    ++ (when s.shown.modes.decom (functions (private_mode 6 true ∷ []))
    ++ (cursor_item s
    ++ (look_actions s.shown.brush
    ++ (sets_item sets_at_power_up s.shown.sets
    ++ (modes_item s.shown.modes
    ++ (settings_item s.settings
    ++ (when (not s.resizes) (functions (private_mode 40 false ∷ []))
    ++ shift_item s.shown.sets.pending)))))))

unfoldable pub repaint_actions : XtermState → List Action
repaint_actions s = first_actions ++ (pages_actions s ++ last_actions s)

-- the repaint: UTF-8, and control functions in 7-bit form
unfoldable pub repaint : XtermState → List ℕ
repaint s = spell (repaint_actions s)
