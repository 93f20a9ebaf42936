use Rattle.vt_glyph.proofs.Reading.{glyph_read-in_use, after_read-in_use}
use Rattle.vt_glyph.proofs.laws.in_use.Goals as goal

pub returns : goal.returns
returns c = record { glyph = glyph_read-in_use; after = after_read-in_use }
