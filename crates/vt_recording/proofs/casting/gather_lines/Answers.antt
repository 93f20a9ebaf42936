use Rattle.std.proofs.Common.{◌∙◌, sym, arith, length-drop}
use Rattle.std.proofs.lemmas.List.{take_rest}
use Rattle.vt_recording.proofs.Fronts.{cast_more, cast_break, cast_end}
use Rattle.vt_recording.proofs.casting.gather_lines.Goals as goal

pub returns-in-None-clause-broken : goal.returns-in-None-clause-broken
returns-in-None-clause-broken c =
    let line = rw take_rest at c.front_line-line.ensures.line in
    (cast_break _ _ _ _ _ _ _ c.loop-at.invariant.gathered _ _ _ line
    (sym c.in-None.is ∙ c.in_ok-now.ensures.time) c.in_ok-now.ensures.gathered).0

pub returns-in-None-clause-gathered : goal.returns-in-None-clause-gathered
returns-in-None-clause-gathered c =
    let line = rw take_rest at c.front_line-line.ensures.line in
    (cast_break _ _ _ _ _ _ _ c.loop-at.invariant.gathered _ _ _ line
    (sym c.in-None.is ∙ c.in_ok-now.ensures.time) c.in_ok-now.ensures.gathered).1

pub loop-at-preserved : goal.loop-at-preserved
loop-at-preserved c =
    let line = rw take_rest at c.front_line-line.ensures.line in
    let fits = rw take_rest at c.front_line-line.ensures.within in
    let room = simp length-drop at fits in
    record {
      within = omega (arith, room, c.loop-at-test.true);
      gathered =
          cast_more _ _ _ _ _ _ _ c.loop-at.invariant.gathered _ _ _ _ line
          (sym c.in-Some.is ∙ c.in_ok-now.ensures.time) c.in_ok-now.ensures.gathered;
    }

pub returns-clause-broken : goal.returns-clause-broken
returns-clause-broken c = (cast_end _ _ _ _ _ _ _ c.loop-at.invariant.gathered c.loop-at-test.false).0

pub returns-clause-gathered : goal.returns-clause-gathered
returns-clause-gathered c = (cast_end _ _ _ _ _ _ _ c.loop-at.invariant.gathered c.loop-at-test.false).1
