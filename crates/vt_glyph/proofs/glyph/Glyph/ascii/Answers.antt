use Rattle.std.proofs.Common.{◌∙◌}
use Rattle.vt_glyph.proofs.Glyphs.{IsEncoding-ascii, encoded_glyph-ascii}
use Rattle.vt_glyph.proofs.glyph.Glyph.ascii.Goals as goal

pub encoded-requires : goal.encoded-requires
encoded-requires c = IsEncoding-ascii c.args.code c.requires.0 c.requires.1

pub returns : goal.returns
returns c = c.encoded.ensures ∙ encoded_glyph-ascii c.args.code c.requires.0 c.requires.1
