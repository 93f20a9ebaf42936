use Rattle.std.proofs.Common.{arith, length-drop}
use Rattle.std.proofs.lemmas.List.{take_rest}
use Rattle.vt_recording.proofs.Values.{none_here, one_here, none_at_end}
use Rattle.vt_recording.proofs.timing.value_of.Goals as goal

pub returns-in-Some : goal.returns-in-Some
returns-in-Some c =
    let line = rw take_rest at c.front_line-line.ensures.line in
    one_here _ c.args.timing.now c.loop-at.at _ c.loop-at.invariant.ahead _ _ line (rw c.in-Some.is at c.value_in.ensures)

pub loop-at-preserved : goal.loop-at-preserved
loop-at-preserved c =
    let line = rw take_rest at c.front_line-line.ensures.line in
    let fits = rw take_rest at c.front_line-line.ensures.within in
    let room = simp length-drop at fits in
    record {
      within = omega (arith, room, c.loop-at-test.true);
      ahead = none_here _ _ _ _ c.loop-at.invariant.ahead _ line (rw c.in_default.is at c.value_in.ensures);
    }

pub returns : goal.returns
returns c = none_at_end _ _ _ _ c.loop-at.invariant.ahead c.loop-at-test.false
