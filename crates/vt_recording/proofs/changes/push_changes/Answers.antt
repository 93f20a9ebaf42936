use Rattle.std.proofs.Common.{◌+◌, refl, ap}
use Rattle.vt_recording.proofs.Marks.{at_mark, none_left, still_within, still_counted}
use Rattle.vt_recording.proofs.Changing as changing
use Rattle.vt_recording.proofs.changes.push_changes.Goals as goal

pub loop-i-preserved : goal.loop-i-preserved
loop-i-preserved c =
    let text = c.args.text.now in
    let kept = c.loop-i.invariant in
    let next = c.with_event-so_far.ensures in
    let mark = at_mark c.loop-i.i c.loop-i.at _ c.event_at-event.result c.args.events.now text kept.within c.event_at-event.ensures (rw c.min.ensures refl) in
    record {
      within = rw c.min.ensures (still_within c.event_at-event.result.length c.loop-i.at text kept.within);
      events = rw next.value (ap (λ n. n + 1) kept.events);
      markers = next.markers;
      content =
          rw c.min.ensures
          (still_counted c.event_at-event.result.length c.loop-i.at c.loop-i.so_far.content _ text _ kept.within kept.content refl
          (rw c.min.ensures at next.content));
      ahead = changing.one_more _ _ _ _ _ kept.ahead _ _ _ _ mark next.value c.in_ok-push_change.ensures;
    }

pub returns : goal.returns
returns c = changing.none_left _ _ _ _ _ c.loop-i.invariant.ahead (none_left c.loop-i.i c.args.events.now _ c.loop-i-test.false)
