use Rattle.std.proofs.Common.{◌∙◌}
use Rattle.vt_glyph.proofs.Glyphs.{IsEncoding-table_entry, encoded_glyph-table_entry}
use Rattle.vt_glyph.proofs.set.Set.glyph.Goals as goal

pub encoded-requires : goal.encoded-requires
encoded-requires c = rw c.encodings.ensures (IsEncoding-table_entry c.args.self c.args.code c.requires.0 c.requires.1)

pub returns-clause-value : goal.returns-clause-value
returns-clause-value c =
    c.encoded.ensures ∙ rw c.encodings.ensures (encoded_glyph-table_entry c.args.self c.args.code c.requires.0
    c.requires.1)
