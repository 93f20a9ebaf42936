use Rattle.std.proofs.Common.{◌≡◌, ◌∙◌, sym, ap, drop, false}
use Rattle.std.proofs.lemmas.List.{take_rest}
use Rattle.vt_recording.specs.Detection.{begins_version}
use Rattle.vt_recording.proofs.Versions.{one_more}
use Rattle.vt_recording.proofs.detection.has_version.Goals as goal

pub loop-at-preserved : goal.loop-at-preserved
loop-at-preserved c =
    let here : begins_version (drop c.loop-at.at c.args.text.now) ≡ false =
    sym (ap begins_version (take_rest c.args.text.now c.loop-at.at)) ∙ sym c.begins_version.ensures
    ∙ c.if-begins_version.false in
    record {
      rest = sym (one_more c.args.text.now c.loop-at.at c.loop-at-test.true here) ∙ c.loop-at.invariant.rest;
    }
