use Rattle.vt_glyph.proofs.Glyphs.{IsEncoding-ascii, encoded_glyph-ascii}
use Rattle.vt_glyph.proofs.laws.ascii_codes.Goals as goal

pub returns : goal.returns
returns c = λ code low high. (IsEncoding-ascii code low high, encoded_glyph-ascii code low high)
