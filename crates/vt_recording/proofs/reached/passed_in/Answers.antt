use Rattle.std.proofs.Common.{◌∙◌, ◌+◌, refl, sym, ap, arith}
use Rattle.vt_recording.proofs.Marks.{at_mark, none_left, still_within, still_counted}
use Rattle.vt_recording.proofs.Passing as passing
use Rattle.vt_recording.proofs.reached.passed_in.Goals as goal

pub loop-i-preserved : goal.loop-i-preserved
loop-i-preserved c =
    let text = c.args.text.now in
    let kept = c.loop-i.invariant in
    let mark = at_mark c.loop-i.i c.loop-i.at _ c.event_at-event.result c.args.events.now text kept.within c.event_at-event.ensures (rw c.min.ensures refl) in
    record {
      within = rw c.min.ensures (still_within c.event_at-event.result.length c.loop-i.at text kept.within);
      few = omega (arith, c.loop-i-test.true);
      events = rw c.with_event-so_far.ensures.value (ap (λ n. n + 1) kept.events);
      markers = c.with_event-so_far.ensures.markers;
      content =
          rw c.min.ensures
          (still_counted c.event_at-event.result.length c.loop-i.at c.loop-i.so_far.content _ text _ kept.within kept.content refl
          (rw c.min.ensures at c.with_event-so_far.ensures.content));
      ahead =
          passing.one_more _ _ _ _ _ _ _ _ mark kept.ahead _ c.with_event-so_far.ensures.value (sym c.stops.ensures ∙ c.if-stops.false);
    }

pub returns-then-stops-clause-value : goal.returns-then-stops-clause-value
returns-then-stops-clause-value c =
    let kept = c.loop-i.invariant in
    let mark = at_mark c.loop-i.i c.loop-i.at _ c.event_at-event.result c.args.events.now c.args.text.now kept.within c.event_at-event.ensures refl in
    passing.stops_here _ _ _ _ _ _ _ _ mark kept.ahead (sym c.stops.ensures ∙ c.if-stops.true)

pub returns-clause-value : goal.returns-clause-value
returns-clause-value c =
    passing.none_left _ _ _ _ _ _ (none_left c.loop-i.i c.args.events.now _ c.loop-i-test.false) c.loop-i.invariant.ahead
