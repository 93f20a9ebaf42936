use Rattle.std.proofs.Common.{◌≡◌, ◌+◌, ◌*◌, arith, sym, ap, ◌∙◌}
use Rattle.vt_glyph.specs.Spell.{spelling_of}
use Rattle.vt_glyph.specs.Encoding.{encoded_glyph, encoded_spelling, encoding_of, encoding_of-encoded_glyph}
use Rattle.vt_glyph.proofs.glyph.Glyph.code.Goals as goal

pub returns-clause-value : goal.returns-clause-value
returns-clause-value c =
    let plain : c.self.inside.byte + 0x100 * c.self.inside.second + 0x10000 * c.self.inside.third ≡ c.self.inside.byte =
    omega (arith, c.self.invariant.1.0, c.self.invariant.1.1) in
    plain ∙ sym (encoding_of-encoded_glyph _ c.self.invariant.0) ∙ ap encoding_of c.self.view_is

pub returns-clause-glyph : goal.returns-clause-glyph
returns-clause-glyph c =
    let plain : c.self.inside.byte + 0x100 * c.self.inside.second + 0x10000 * c.self.inside.third ≡ c.self.inside.byte =
    omega (arith, c.self.invariant.1.0, c.self.invariant.1.1) in
    ap encoded_glyph plain ∙ c.self.view_is

pub returns-clause-spelling : goal.returns-clause-spelling
returns-clause-spelling c =
    let plain : c.self.inside.byte + 0x100 * c.self.inside.second + 0x10000 * c.self.inside.third ≡ c.self.inside.byte =
    omega (arith, c.self.invariant.1.0, c.self.invariant.1.1) in
    ap encoded_spelling plain ∙ sym c.self.invariant.0.spelling ∙ ap spelling_of c.self.view_is
