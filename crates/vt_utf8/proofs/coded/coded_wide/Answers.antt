use Rattle.std.proofs.Common.{sym, arith, ◌∙◌}
use Rattle.std.proofs.lemmas.Bool.{eqb-true}
use Rattle.vt_utf8.proofs.Narrow.{hiragana-wide, katakana-wide, han-wide, replacement-narrow}
use Rattle.vt_utf8.proofs.coded.coded_wide.Goals as goal

pub returns-then-is_in : goal.returns-then-is_in
returns-then-is_in c = record {
  cells = eqb-true _ _ (sym (hiragana-wide c.args.c (sym c.if-is_in.true ∙ c.is_in.ensures)));
  some = omega arith;
  few = omega arith;
  glyph = c.kana_or_han_code.ensures.glyph;
  code = c.kana_or_han_code.ensures.code;
}

pub returns-then-is_in-2 : goal.returns-then-is_in-2
returns-then-is_in-2 c = record {
  cells = eqb-true _ _ (sym (katakana-wide c.args.c (sym c.if-is_in-2.true ∙ c.is_in-2.ensures)));
  some = omega arith;
  few = omega arith;
  glyph = c.kana_or_han_code-then-is_in-2.ensures.glyph;
  code = c.kana_or_han_code-then-is_in-2.ensures.code;
}

pub returns-then-is_in-3 : goal.returns-then-is_in-3
returns-then-is_in-3 c = record {
  cells = eqb-true _ _ (sym (han-wide c.args.c (sym c.if-is_in-3.true ∙ c.is_in-3.ensures)));
  some = omega arith;
  few = omega arith;
  glyph = c.kana_or_han_code-then-is_in-3.ensures.glyph;
  code = c.kana_or_han_code-then-is_in-3.ensures.code;
}

pub returns-then-is_in-4 : goal.returns-then-is_in-4
returns-then-is_in-4 c = record {
  cells = eqb-true _ _ (sym (replacement-narrow c.args.c (sym c.if-is_in-4.true ∙ c.is_in-4.ensures)));
  some = omega arith;
  few = omega arith;
  glyph = c.code_of.ensures.glyph;
  code = c.code_of.ensures.code;
}
