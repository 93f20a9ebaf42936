use Rattle.std.proofs.Common.{◌∙◌, sym, arith, length-drop}
use Rattle.std.proofs.lemmas.List.{take_rest}
use Rattle.vt_recording.proofs.Fronts.{timed_more, timed_break, timed_end}
use Rattle.vt_recording.proofs.timing.gather_lines.Goals as goal

pub returns-in-Some-clause-broken : goal.returns-in-Some-clause-broken
returns-in-Some-clause-broken c =
    let line = rw take_rest at c.front_line-line.ensures.line in
    c.timeline.ensures.broken
    ∙ (timed_break _ _ _ _ _ _ _ _ _ c.loop-at.invariant.gathered _ _ line
    (sym c.in-Some.is ∙ c.in_ok-place.ensures.breaks)).0

pub returns-in-Some-clause-events : goal.returns-in-Some-clause-events
returns-in-Some-clause-events c =
    let line = rw take_rest at c.front_line-line.ensures.line in
    let kept = rw c.in-Some.is at c.in_ok-place.ensures.kept in
    rw (c.timeline.ensures.events, c.timeline.ensures.text, kept.0, kept.1)
    (timed_break _ _ _ _ _ _ _ _ _ c.loop-at.invariant.gathered _ _ line
    (sym c.in-Some.is ∙ c.in_ok-place.ensures.breaks)).1

pub loop-at-preserved : goal.loop-at-preserved
loop-at-preserved c =
    let line = rw take_rest at c.front_line-line.ensures.line in
    let fits = rw take_rest at c.front_line-line.ensures.within in
    let room = simp length-drop at fits in
    record {
      within = omega (arith, room, c.loop-at-test.true);
      placed = rw c.in_default.is at c.in_ok-place.ensures.within;
      gathered =
          timed_more _ _ _ _ _ _ _ _ _ c.loop-at.invariant.gathered _ _ _ _ line
          (sym c.in_default.is ∙ c.in_ok-place.ensures.breaks) (rw c.in_default.is at c.in_ok-place.ensures.spot)
          (rw c.in_default.is at c.in_ok-place.ensures.events);
    }

pub returns-clause-broken : goal.returns-clause-broken
returns-clause-broken c =
    c.timeline-2.ensures.broken ∙ (timed_end _ _ _ _ _ _ _ _ _ c.loop-at.invariant.gathered c.loop-at-test.false).0

pub returns-clause-events : goal.returns-clause-events
returns-clause-events c =
    rw (c.timeline-2.ensures.events, c.timeline-2.ensures.text)
    (timed_end _ _ _ _ _ _ _ _ _ c.loop-at.invariant.gathered c.loop-at-test.false).1
