use Rattle.std.proofs.Common.{true}
use Rattle.vt_term.specs.State.{saved_sets}
use Rattle.vt_paint.specs.Controls.{cursor_position, brush_events, sets_events, save_cursor}
use Rattle.vt_paint.specs.Items.{origin_item, wrap_item}
use Rattle.vt_paint.specs.Private.ChangeEvents.{saved_cursor, record_item}
use Rattle.vt_paint.proofs.Pushing.{then_events, events, function}
use Rattle.vt_paint.proofs.changes.push_record.Goals as goal

pub returns-clause-items : goal.returns-clause-items
unfolding record_item origin_item
returns-clause-items c =
    let s = c.args.saved.now in
    (then_events (events (origin_item true s.origin) c.push_mode_item.ensures.items)
    (then_events (function (cursor_position s.row s.col) c.cursor_to.ensures.value c.push.ensures.items)
    (then_events (events (wrap_item c.args.t.now.display.grid (saved_cursor s)) c.push_wrap.ensures.items)
    (then_events (events (brush_events s.brush) c.push_brush.ensures.items)
    (then_events (events (sets_events (saved_sets s)) c.push_sets.ensures.items)
    (function save_cursor c.save_cursor.ensures.value c.push-2.ensures.items)))))).is
