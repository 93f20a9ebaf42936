use Rattle.std.proofs.Common.{◌∙◌, sym, arith}
use Rattle.vt_recording.proofs.Supplemental.{found_here, found_later, found_nowhere, byte_in, same, differ}
use Rattle.vt_recording.proofs.characters.byte_of.Goals as goal

pub returns-then-to_char-c : goal.returns-then-to_char-c
returns-then-to_char-c c =
    byte_in _ _ (sym c.is_ascii.ensures ∙ c.if-is_ascii.false) c.if-c-eq-SUBSTITUTE.false
    (found_here _ _ _ c.loop-code-test.true c.loop-code.invariant.rest
    (same _ _ (sym c.glyph.ensures.value ∙ sym c.to_char.ensures.value ∙ c.if-to_char-c.true)))

pub loop-code-preserved : goal.loop-code-preserved
loop-code-preserved c = record {
  from = omega (arith, c.loop-code.invariant.from);
  upto = omega (arith, c.loop-code-test.true);
  rest = found_later _ _ _ c.loop-code-test.true c.loop-code.invariant.rest
      (differ _ _ (λ e. c.if-to_char-c.false (c.to_char.ensures.value ∙ c.glyph.ensures.value ∙ e)));
}

pub returns : goal.returns
returns c =
    byte_in _ _ (sym c.is_ascii.ensures ∙ c.if-is_ascii.false) c.if-c-eq-SUBSTITUTE.false
    (found_nowhere _ _ _ c.loop-code-test.false c.loop-code.invariant.rest)
