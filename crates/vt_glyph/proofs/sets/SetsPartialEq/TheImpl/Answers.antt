use Rattle.std.proofs.lemmas.Bool.Decides.{same_from_decides}
use Rattle.vt_glyph.proofs.Designations.{Decides-parts}
use Rattle.vt_glyph.proofs.sets.SetsPartialEq.TheImpl.Goals as goal

pub eq-tells : goal.eq-tells
eq-tells c = same_from_decides _ _ c.ensures (Decides-parts c.args.self.now c.args.other.now)
