use Rattle.std.proofs.Common.{◌≡◌, arith, rules}
use Rattle.std.specs.Prelude.{slice_index}
use Rattle.vt_glyph.specs.declared.glyph.TheConstants.{CHARACTERS}
use Rattle.vt_glyph.specs.Encoding.{encoded_glyph}
use Rattle.vt_glyph.proofs.Glyphs.{character_at}
use Rattle.vt_glyph.proofs.glyph.Glyph.to_char.Goals as goal

pub returns-clause-value : goal.returns-clause-value
returns-clause-value c =
    let e : slice_index CHARACTERS c.self.inside.byte ≡ encoded_glyph c.self.inside.byte =
    character_at _ (omega arith) c.self.invariant.0 in
    search (rules, e, c.self.view_is)
