use Rattle.std.proofs.Common.{refl}
use Rattle.vt_recording.proofs.Marks.{at_mark, none_left, still_within, still_counted}
use Rattle.vt_replay.proofs.EventTables as tables
use Rattle.vt_replay.proofs.events.push_table.Goals as goal

pub loop-i-preserved : goal.loop-i-preserved
loop-i-preserved c =
    let text = c.args.text.now in
    let kept = c.loop-i.invariant in
    let mark = at_mark c.loop-i.i c.loop-i.at _ c.event_at-event.result c.args.events.now text kept.within c.event_at-event.ensures (rw c.min.ensures refl) in
    record {
      counted =
          rw c.min.ensures
          (still_counted c.event_at-event.result.length c.loop-i.at c.loop-i.place _ text _ kept.within kept.counted refl
          (rw c.min.ensures at c.place_after-place.ensures.counted));
      within = rw c.min.ensures (still_within c.event_at-event.result.length c.loop-i.at text kept.within);
      ahead = tables.one_more _ _ _ _ _ _ _ _ kept.ahead _ _ _ _ mark c.place_after-place.ensures.value c.in_ok-push_listed.ensures;
    }

pub returns : goal.returns
returns c = tables.none_left _ _ _ _ _ _ _ _ c.loop-i.invariant.ahead (none_left c.loop-i.i c.args.events.now _ c.loop-i-test.false)
