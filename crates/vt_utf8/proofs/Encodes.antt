-- The code for a character is the code of its glyph.
use Rattle.std.proofs.Common.{ℕ, ap, sym, subst, ◌∙◌}
use Rattle.vt_glyph.specs.Tables.{IsGlyph}
use Rattle.vt_glyph.specs.Spell.{spelling_of}
use Rattle.vt_glyph.specs.Encoding.{IsEncoding}
use Rattle.vt_glyph.specs.Laws.{GlyphLaws}
use Rattle.vt_utf8.specs.Private.Codes.{code_by}
use Rattle.vt_utf8.proofs.Silence.{shown-glyph}
use Rattle.vt_utf8.proofs.Tables.{code_by-shown, code_by-glyph}

pub code_by-encodes : GlyphLaws → (c : ℕ) → IsEncoding (code_by c)
code_by-encodes glyphs c = record {
  glyph = subst IsGlyph (sym (code_by-glyph c)) (shown-glyph glyphs c);
  spelling = ap spelling_of (code_by-glyph c) ∙ sym (code_by-shown c);
}
