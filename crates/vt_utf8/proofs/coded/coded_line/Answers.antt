use Rattle.std.proofs.Common.{ap, sym, subst, arith, ◌∙◌}
use Rattle.std.proofs.lemmas.Bool.{eqb-true}
use Rattle.vt_glyph.specs.Encoding.{encoded_glyph, IsEncoding}
use Rattle.vt_utf8.proofs.Encodes.{code_by-encodes}
use Rattle.vt_utf8.proofs.Narrow.{lines-narrow, elements-narrow, braille-narrow}
use Rattle.vt_utf8.proofs.Tables.{code_by-glyph}
use Rattle.vt_utf8.proofs.coded.coded_line.Goals as goal

pub returns-then-is_in : goal.returns-then-is_in
returns-then-is_in c = record {
  cells = eqb-true _ _ (sym (lines-narrow c.args.c (sym c.if-is_in.true ∙ c.is_in.ensures)));
  some = omega arith;
  few = omega arith;
  glyph = c.code_of.ensures.glyph;
  code = c.code_of.ensures.code;
}

pub returns-then-is_in-2 : goal.returns-then-is_in-2
returns-then-is_in-2 c = record {
  cells = eqb-true _ _ (sym (elements-narrow c.args.c (sym c.if-is_in-2.true ∙ c.is_in-2.ensures)));
  some = omega arith;
  few = omega arith;
  glyph = ap encoded_glyph c.element_code.ensures ∙ code_by-glyph c.args.c;
  code = subst IsEncoding (sym c.element_code.ensures) (code_by-encodes c.glyphs.ensures c.args.c);
}

pub returns-then-is_in-3 : goal.returns-then-is_in-3
returns-then-is_in-3 c = record {
  cells = eqb-true _ _ (sym (braille-narrow c.args.c (sym c.if-is_in-3.true ∙ c.is_in-3.ensures)));
  some = omega arith;
  few = omega arith;
  glyph = ap encoded_glyph c.braille_code.ensures ∙ code_by-glyph c.args.c;
  code = subst IsEncoding (sym c.braille_code.ensures) (code_by-encodes c.glyphs.ensures c.args.c);
}
