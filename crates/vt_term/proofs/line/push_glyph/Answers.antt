use Rattle.std.proofs.str.Laws.{two, three}
use Rattle.std.proofs.Common.{◌∙◌, ◌++◌, List, ℕ, ap, sym, arith, encode_utf8}
use Rattle.vt_term.proofs.GlyphSizes.{glyph_short}
use Rattle.vt_term.proofs.RowTexts.{pushed-two, pushed-three}
use Rattle.vt_term.proofs.line.push_glyph.Goals as goal

pub returns-then-c-lt2048-clause-items : goal.returns-then-c-lt2048-clause-items
returns-then-c-lt2048-clause-items c =
    pushed-two _ _ _ _ _ c.push-then-c-lt2048.ensures.items c.push-then-c-lt2048-2.ensures.items
    ∙ ap (λ (t : List ℕ). c.args.text.now.items ++ t)
    (sym (two c.to_char-c.result c.if-c-lt128.false c.if-c-lt2048.true) ∙ ap encode_utf8 c.to_char-c.ensures.value)

pub returns-else-c-lt2048-clause-items : goal.returns-else-c-lt2048-clause-items
returns-else-c-lt2048-clause-items c =
    pushed-three _ _ _ _ _ _ _ c.push-else-c-lt2048.ensures.items c.push-else-c-lt2048-2.ensures.items c.push-else-c-lt2048-3.ensures.items
    ∙ ap (λ (t : List ℕ). c.args.text.now.items ++ t)
    (sym (three c.to_char-c.result c.if-c-lt2048.false
    (omega (arith, glyph_short c.args.glyph c.to_char-c.ensures.is_glyph, c.to_char-c.ensures.value)))
    ∙ ap encode_utf8 c.to_char-c.ensures.value)
