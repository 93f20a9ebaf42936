use Rattle.std.proofs.Common.{◌∷◌, [], false, not}
use Rattle.vt_screen.specs.Same.{when}
use Rattle.vt_paint.specs.Controls.{private_mode}
use Rattle.vt_xterm_repaint.specs.Items.{functions, modes_item, settings_item, shift_item}
use Rattle.vt_xterm_repaint.specs.Private.Kept.{kept_actions}
use Rattle.vt_xterm_repaint.proofs.Written.{pushed, then_pushed}
use Rattle.vt_xterm_repaint.proofs.modes.push_kept.Goals as goal

pub returns-clause-items : goal.returns-clause-items
unfolding kept_actions
returns-clause-items c =
    (then_pushed (pushed (modes_item c.args.modes) c.push_modes.ensures.items)
    (then_pushed (pushed (settings_item c.args.settings) c.push_settings.ensures.items)
    (then_pushed (pushed (when (not c.args.resizes) (functions (private_mode 40 false ∷ []))) c.push_resizing.ensures.items)
    (pushed (shift_item c.args.pending) c.push_shift.ensures.items)))).is
