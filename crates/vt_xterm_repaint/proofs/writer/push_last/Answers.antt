use Rattle.std.proofs.Common.{◌∷◌, [], ◌++◌, true}
use Rattle.vt_glyph.specs.Invocation.{sets_at_power_up}
use Rattle.vt_screen.specs.Same.{when}
use Rattle.vt_paint.specs.Controls.{private_mode}
use Rattle.vt_xterm_repaint.specs.Looks.{look_actions}
use Rattle.vt_xterm_repaint.specs.Items.{functions, margins_item, cursor_item, sets_item}
use Rattle.vt_xterm_repaint.specs.Private.Kept.{kept_actions}
use Rattle.vt_xterm_repaint.proofs.Written.{pushed, then_pushed, last_written}
use Rattle.vt_xterm_repaint.proofs.writer.push_last.Goals as goal

pub returns-clause-items : goal.returns-clause-items
returns-clause-items c =
    let s = c.args.d.now in
    last_written s _ _
    (then_pushed
    (pushed (margins_item s ++ (when s.shown.modes.decom (functions (private_mode 6 true ∷ [])) ++ cursor_item s))
    c.push_placed.ensures.items)
    (then_pushed (pushed (look_actions s.shown.brush ++ sets_item sets_at_power_up s.shown.sets) c.push_pen.ensures.items)
    (pushed (kept_actions s.shown.modes s.settings s.resizes s.shown.sets.pending) c.push_end.ensures.items)))
