use Rattle.std.proofs.Common.{sym, arith, ◌∙◌}
use Rattle.std.proofs.lemmas.Bool.{eqb-true}
use Rattle.vt_utf8.proofs.Narrow.{latin-narrow, punctuation-narrow}
use Rattle.vt_utf8.proofs.coded.coded_sign.Goals as goal

pub returns-then-is_in : goal.returns-then-is_in
returns-then-is_in c = record {
  cells = eqb-true _ _ (sym (latin-narrow c.args.c (sym c.if-is_in.true ∙ c.is_in.ensures)));
  some = omega arith;
  few = omega arith;
  glyph = c.code_of.ensures.glyph;
  code = c.code_of.ensures.code;
}

pub returns-then-is_in-2 : goal.returns-then-is_in-2
returns-then-is_in-2 c = record {
  cells = eqb-true _ _ (sym (punctuation-narrow c.args.c (sym c.if-is_in-2.true ∙ c.is_in-2.ensures)));
  some = omega arith;
  few = omega arith;
  glyph = c.code_of-then-is_in-2.ensures.glyph;
  code = c.code_of-then-is_in-2.ensures.code;
}
