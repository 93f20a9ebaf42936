use Rattle.std.proofs.Common.{true, false, ap}
use Rattle.vt_paint.specs.Controls.{private_mode, soft_reset, spelling_sets_events}
use Rattle.vt_paint.specs.Items.{last_items}
use Rattle.vt_paint.specs.Private.ChangeEvents.{start_item, changed_cells, record_item, change_events}
use Rattle.vt_paint.proofs.Pushing.{then_events, events, events_as, function}
use Rattle.vt_paint.proofs.changes.push_changes.Goals as goal

pub returns-clause-items : goal.returns-clause-items
unfolding change_events start_item
returns-clause-items g c =
    let s = c.args.t.now.display in
    (then_events (function soft_reset c.soft_reset.ensures.value c.push.ensures.items)
    (then_events (function (private_mode 7 true) c.mode.ensures.value c.push-2.ensures.items)
    (then_events (events spelling_sets_events c.push_bytes.ensures.items)
    (then_events (events (changed_cells c.args.marks.now s.grid) c.push_changed_cells.ensures.items)
    (then_events (events_as (ap (λ saved. record_item s.grid saved) c.saved.ensures) c.push_record.ensures.items)
    (then_events (events spelling_sets_events c.push_bytes-2.ensures.items)
    (events (last_items false s) c.push_last.ensures.items))))))).is
