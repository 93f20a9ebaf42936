use Rattle.std.proofs.Common.{ℕ, List, sym, ap, subst, ◌∙◌}
use Rattle.std.specs.Prelude.{slice_index}
use Rattle.std.specs.List.{flat_map}
use Rattle.vt_glyph.specs.Encoding.{IsEncoding, encoded_glyph}
use Rattle.vt_glyph.specs.Invocation.{InUseTable, glyph_in_use}
use Rattle.vt_glyph.proofs.ChartBytes.{both_halves, in_use-Encodes}
use Rattle.vt_glyph.proofs.in_use.InUse.glyph.Goals as goal

pub encoded-requires : goal.encoded-requires
encoded-requires c =
    let read = in_use-Encodes (record { left = c.self.inside.left; right = c.self.inside.right }) c.args.b c.requires in
    let here = ap (λ (bytes : List ℕ). slice_index bytes c.args.b) (c.as_flattened.ensures.value
    ∙ ap (λ (halves : List (List ℕ)). flat_map (λ x. x) halves) c.self.invariant)
    ∙ both_halves c.self.inside.left c.self.inside.right c.args.b c.requires in
    subst IsEncoding (sym here) read.is

pub returns-clause-value : goal.returns-clause-value
returns-clause-value c =
    let read = in_use-Encodes (record { left = c.self.inside.left; right = c.self.inside.right }) c.args.b c.requires in
    let here = ap (λ (bytes : List ℕ). slice_index bytes c.args.b) (c.as_flattened.ensures.value
    ∙ ap (λ (halves : List (List ℕ)). flat_map (λ x. x) halves) c.self.invariant)
    ∙ both_halves c.self.inside.left c.self.inside.right c.args.b c.requires in
    c.encoded.ensures ∙ ap encoded_glyph here ∙ read.glyph
    ∙ ap (λ (t : InUseTable). glyph_in_use t c.args.b) c.self.view_is
