use Rattle.std.proofs.Common.{true, false, not, ap}
use Rattle.vt_screen.specs.Same.{when}
use Rattle.vt_paint.specs.Controls.{clear_all_tabs}
use Rattle.vt_paint.specs.Items.{width_events, made_stops}
use Rattle.vt_paint.specs.Private.Parts.{stops_from}
use Rattle.vt_paint.proofs.Pushing.{then_events, events, events_as, function}
use Rattle.vt_paint.proofs.items.push_made_stops.Goals as goal

pub returns-clause-items : goal.returns-clause-items
unfolding made_stops
returns-clause-items c =
    (then_events (events (width_events c.args.size true) c.push_width_when.ensures.items)
    (then_events (function clear_all_tabs c.clear_all_tabs.ensures.value c.push.ensures.items)
    (then_events (events_as (ap (λ n. stops_from c.args.stops.now 1 n) c.requires.len) c.push_each_stop.ensures.items)
    (events (when (not c.args.wide) (width_events c.args.size false))
    c.push_width_when-2.ensures.items)))).is
