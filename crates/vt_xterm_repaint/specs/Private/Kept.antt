-- The end of a repaint: what no position depends on. (this profile)
use Rattle.std.specs.Prelude.{ℕ, List, [], ◌∷◌, ◌++◌, Bool, false, not, Option}
use Rattle.vt_screen.specs.Same.{when}
use Rattle.vt_term.specs.declared.state.Modes.{Modes}
use Rattle.vt_feed.specs.Actions.{Action}
use Rattle.vt_paint.specs.Controls.{private_mode}
use Rattle.vt_xterm_display.specs.declared.settings.Settings.{Settings}
use Rattle.vt_xterm_repaint.specs.Items.{functions, modes_item, settings_item, shift_item}

unfoldable pub kept_actions : Modes → Settings → Bool → Option ℕ → List Action
kept_actions modes settings resizes pending =
    modes_item modes
    ++ (settings_item settings
    ++ (when (not resizes) (functions (private_mode 40 false ∷ []))
    ++ shift_item pending))
