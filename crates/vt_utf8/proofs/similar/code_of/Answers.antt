use Rattle.std.proofs.Common.{◌∙◌, ap, sym, subst}
use Rattle.vt_glyph.specs.Encoding.{encoded_spelling, encoded_glyph, IsEncoding}
use Rattle.vt_utf8.proofs.Tables.{code_by-shown, code_by-glyph}
use Rattle.vt_utf8.proofs.Encodes.{code_by-encodes}
use Rattle.vt_utf8.proofs.similar.code_of.Goals as goal

pub returns-clause-spelling : goal.returns-clause-spelling
returns-clause-spelling c = ap encoded_spelling c.code_by.ensures ∙ code_by-shown c.args.c

pub returns-clause-glyph : goal.returns-clause-glyph
returns-clause-glyph c = ap encoded_glyph c.code_by.ensures ∙ code_by-glyph c.args.c

pub returns-clause-code : goal.returns-clause-code
returns-clause-code c = subst IsEncoding (sym c.code_by.ensures) (code_by-encodes c.glyphs.ensures c.args.c)
