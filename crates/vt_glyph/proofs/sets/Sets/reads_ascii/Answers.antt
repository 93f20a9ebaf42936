use Rattle.std.proofs.Common.{◌≡◌, rules}
use Rattle.std.specs.Prelude.{None}
use Rattle.vt_glyph.specs.declared.set.Set.TheVariants.{Ascii}
use Rattle.vt_glyph.specs.Invocation.{set_at}
use Rattle.vt_glyph.proofs.Reading.{glyph_read-plain, after_read-plain}
use Rattle.vt_glyph.proofs.sets.Sets.reads_ascii.Goals as goal

pub returns-then-is_none-clause-glyph : goal.returns-then-is_none-clause-glyph
returns-then-is_none-clause-glyph c = λ h b low high.
    let sets = c.args.self.now in
    let plain : (set_at sets sets.left ≡ Ascii) × (sets.pending ≡ None) = search rules in
    glyph_read-plain sets b plain low high

pub returns-then-is_none-clause-after : goal.returns-then-is_none-clause-after
returns-then-is_none-clause-after c = λ h b low high.
    let sets = c.args.self.now in
    let none : sets.pending ≡ None = search rules in
    after_read-plain sets b none low high
