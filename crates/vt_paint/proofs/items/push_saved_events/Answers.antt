use Rattle.std.proofs.Common.{◌∷◌, [], true, false}
use Rattle.vt_syntax.specs.declared.event.Event.TheVariants.{Print}
use Rattle.vt_glyph.specs.Tables.{space}
use Rattle.vt_term.specs.State.{saved_sets}
use Rattle.vt_screen.specs.Same.{when}
use Rattle.vt_paint.specs.Controls.{private_mode, cursor_position, brush_events, sets_events, save_cursor}
use Rattle.vt_paint.specs.Items.{saved_events}
use Rattle.vt_paint.proofs.Pushing.{then_events, events, function, bytes_where}
use Rattle.vt_paint.proofs.items.push_saved_events.Goals as goal

pub returns-clause-items : goal.returns-clause-items
unfolding saved_events
returns-clause-items c =
    let s = c.args.saved.now in
    (then_events (events (when s.origin (private_mode 6 true ∷ [])) c.push_mode_when.ensures.items)
    (then_events (function (cursor_position s.row s.col) c.cursor_to.ensures.value c.push.ensures.items)
    (then_events (bytes_where s.wrap (Print space ∷ []) c.push_when.ensures.items)
    (then_events (events (brush_events s.brush) c.push_brush.ensures.items)
    (then_events (events (sets_events (saved_sets s)) c.push_sets.ensures.items)
    (then_events (function save_cursor c.save_cursor.ensures.value c.push-2.ensures.items)
    (events (when s.origin (private_mode 6 false ∷ [])) c.push_mode_when-2.ensures.items))))))).is
