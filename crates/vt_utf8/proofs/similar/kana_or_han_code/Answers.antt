use Rattle.std.proofs.Common.{◌∙◌, ap, sym, subst}
use Rattle.vt_glyph.specs.Encoding.{encoded_glyph, IsEncoding}
use Rattle.vt_utf8.proofs.Tables.{code_by-glyph, kana-or-han-code, middle-dot-code}
use Rattle.vt_utf8.proofs.Encodes.{code_by-encodes}
use Rattle.vt_utf8.proofs.similar.kana_or_han_code.Goals as goal

pub returns-then-n-eq12539-clause-glyph : goal.returns-then-n-eq12539-clause-glyph
returns-then-n-eq12539-clause-glyph c = rw c.if-n-eq12539.true (ap encoded_glyph middle-dot-code ∙ code_by-glyph 0x30FB)

pub returns-then-n-eq12539-clause-code : goal.returns-then-n-eq12539-clause-code
returns-then-n-eq12539-clause-code c = subst IsEncoding (sym middle-dot-code) (code_by-encodes c.glyphs.ensures 0x30FB)

pub returns-clause-glyph : goal.returns-clause-glyph
returns-clause-glyph c =
    ap encoded_glyph (kana-or-han-code c.args.c c.requires.0 c.requires.1 c.if-n-eq12539.false) ∙ code_by-glyph c.args.c

pub returns-clause-code : goal.returns-clause-code
returns-clause-code c =
    subst IsEncoding (sym (kana-or-han-code c.args.c c.requires.0 c.requires.1 c.if-n-eq12539.false))
    (code_by-encodes c.glyphs.ensures c.args.c)
