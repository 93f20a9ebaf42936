use Rattle.std.proofs.Common.{refl, ◌∙◌}
use Rattle.vt_glyph.specs.Tables.{glyph_of, is_glyph}
use Rattle.vt_glyph.specs.Spell.{spelling_of}
use Rattle.vt_glyph.specs.Encoding.{encoded_glyph}
use Rattle.vt_glyph.proofs.glyph.Glyph.blank.Goals as goal

pub encoded-requires : goal.encoded-requires
unfolding glyph_of is_glyph spelling_of encoded_glyph
encoded-requires c = record { glyph = refl; spelling = refl }

pub returns : goal.returns
unfolding glyph_of encoded_glyph
returns c = c.encoded.ensures ∙ refl
