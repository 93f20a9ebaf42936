use Rattle.std.proofs.Common.{◌+◌, ◌∙◌, arith}
use Rattle.std.proofs.lemmas.List.{take-set-le}
use Rattle.vt_update.proofs.Elements.{character_more}
use Rattle.vt_update.proofs.chosen.put_codes.Goals as goal

pub loop-i-preserved : goal.loop-i-preserved
loop-i-preserved c =
    let at = c.args.at + c.loop-i.i in record {
      speaks = λ h. character_more c.loop-i.all at (c.args.at + (c.loop-i.i + 1)) _ (omega arith)
          (omega (arith, c.requires.room, c.loop-i.auto.i-end, c.loop-i-test.true))
          (omega (arith, c.requires.first)) (omega (arith, c.if-place-span.false, c.requires.first)) (c.loop-i.invariant.speaks h);
      kept = λ n h. take-set-le n c.loop-i.all at _ (omega arith) ∙ c.loop-i.invariant.kept n h;
    }
