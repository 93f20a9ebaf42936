use Rattle.std.proofs.Common.{◌∙◌, ◌++◌, List, ℕ, take, ap, sym, arith, encode_utf8}
use Rattle.std.proofs.str.Laws.{two, three}
use Rattle.vt_picture.proofs.CellWords.{glyph_short}
use Rattle.vt_picture.proofs.line.put_rare.Goals as goal

pub returns-then-c-lt2048-clause-items : goal.returns-then-c-lt2048-clause-items
returns-then-c-lt2048-clause-items c =
    c.put_part-then-c-lt2048.ensures.items
    ∙ ap (λ (t : List ℕ). take c.args.at c.args.line.now ++ t)
    (sym (two c.to_char-c.result c.if-c-lt128.false c.if-c-lt2048.true) ∙ ap encode_utf8 c.to_char-c.ensures.value)

pub returns-clause-items : goal.returns-clause-items
returns-clause-items c =
    c.put_part-2.ensures.items
    ∙ ap (λ (t : List ℕ). take c.args.at c.args.line.now ++ t)
    (sym (three c.to_char-c.result c.if-c-lt2048.false
    (omega (arith, glyph_short c.args.cell.now.glyph c.to_char-c.ensures.is_glyph, c.to_char-c.ensures.value)))
    ∙ ap encode_utf8 c.to_char-c.ensures.value)
