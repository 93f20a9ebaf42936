use Rattle.std.proofs.Common.{◌∙◌, ◌-◌, sym, arith}
use Rattle.vt_term.proofs.RowTexts.{trimmed-take-space, trimmed-take-spaces, trimmed-take-glyph}
use Rattle.vt_term.proofs.line.end_of_text.Goals as goal

pub loop-end-preserved : goal.loop-end-preserved
loop-end-preserved c =
    let end = c.loop-end.end in
    record {
      within = omega (arith, c.loop-end.invariant.within);
      same = c.loop-end.invariant.same
          ∙ trimmed-take-spaces c.args.codes.now (end - 8) 8 end (omega (arith, c.loop-end-test.true))
          c.loop-end.invariant.within c.if-are_spaces.ensures;
    }

pub loop-end-2-preserved : goal.loop-end-2-preserved
loop-end-2-preserved c =
    let end = c.loop-end-2.end in
    record {
      within = omega (arith, c.loop-end-2.invariant.within);
      same = c.loop-end-2.invariant.same
          ∙ trimmed-take-space c.args.codes.now (end - 1) end (omega (arith, c.loop-end-2-test.true))
          (omega (arith, c.loop-end-2-test.true, c.loop-end-2.invariant.within)) c.if-codes-end-eq32.true;
    }

pub returns-else-codes-end-eq32-clause-text : goal.returns-else-codes-end-eq32-clause-text
returns-else-codes-end-eq32-clause-text c =
    let end = c.loop-end-2.end in
    sym (c.loop-end-2.invariant.same
    ∙ trimmed-take-glyph c.args.codes.now (end - 1) end (omega (arith, c.loop-end-2-test.true))
    (omega (arith, c.loop-end-2-test.true, c.loop-end-2.invariant.within)) c.if-codes-end-eq32.false)
