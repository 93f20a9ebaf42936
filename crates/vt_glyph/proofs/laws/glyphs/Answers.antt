use Rattle.vt_glyph.proofs.Charts.{space_is_glyph, substitute_is_glyph}
use Rattle.vt_glyph.proofs.Glyphs.{IsGlyph-ascii, IsGlyph-glyph_of}
use Rattle.vt_glyph.proofs.ChartBytes.{glyph_in_use-IsGlyph}
use Rattle.vt_glyph.proofs.Spelled.{glyph_read-IsGlyph}
use Rattle.vt_glyph.proofs.laws.glyphs.Goals as goal

pub returns : goal.returns
returns c = record {
  space = space_is_glyph;
  substitute = substitute_is_glyph;
  ascii = IsGlyph-ascii;
  shown =
      IsGlyph-glyph_of;
  read = glyph_read-IsGlyph;
  in_use = glyph_in_use-IsGlyph;
}
