use Rattle.std.proofs.Common.{◌-◌, arith}
use Rattle.std.proofs.lemmas.List.{take_rest}
use Rattle.vt_recording.proofs.Lasts.{none_at_end, last_here, none_here}
use Rattle.vt_recording.proofs.heading.after_last.Goals as goal

pub loop-at-init : goal.loop-at-init
loop-at-init c = record {
  within = omega arith;
  later = none_at_end c.args.words.now c.args.text.now;
}

pub returns-in-Some : goal.returns-in-Some
returns-in-Some c =
    let here = rw take_rest at c.in-Some.ensures in
    last_here c.args.words.now c.args.text.now (c.loop-at.at - 1) c.loop-at.at (omega (arith, c.loop-at-test.true))
    (omega (arith, c.loop-at-test.true, c.loop-at.invariant.within)) c.loop-at.invariant.later _ here.0 here.1

pub loop-at-preserved : goal.loop-at-preserved
loop-at-preserved c =
    let here = rw take_rest at c.in_default.ensures in
    record {
      within = omega (arith, c.loop-at.invariant.within);
      later =
          none_here c.args.words.now c.args.text.now (c.loop-at.at - 1) c.loop-at.at (omega (arith, c.loop-at-test.true))
          (omega (arith, c.loop-at-test.true, c.loop-at.invariant.within)) c.loop-at.invariant.later here;
    }
