use Rattle.std.proofs.Common.{◌≡◌, ◌∙◌, sym, ap, arith, drop, false}
use Rattle.std.proofs.lemmas.List.{take_rest}
use Rattle.vt_recording.specs.Script.{is_end}
use Rattle.vt_recording.proofs.Ends.{no_more}
use Rattle.vt_recording.proofs.script.end_of.Goals as goal

pub loop-at-preserved : goal.loop-at-preserved
loop-at-preserved c =
    let here : is_end (drop c.loop-at.at c.args.body.now) ≡ false =
    sym (ap is_end (take_rest c.args.body.now c.loop-at.at)) ∙ sym c.is_end.ensures ∙ c.if-is_end.false in
    record {
      within = omega (arith, c.loop-at-test.true);
      before = no_more is_end c.args.body.now c.loop-at.at c.loop-at.invariant.before here;
    }
