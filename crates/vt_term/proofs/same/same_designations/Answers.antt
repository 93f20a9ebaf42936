use Rattle.std.proofs.Common.{rules}
use Rattle.std.proofs.lemmas.Slice.Eq.{slice_eq-Decides}
use Rattle.vt_term.proofs.same.same_designations.Goals as goal

pub returns : goal.returns
returns c = slice_eq-Decides (λ x y. search rules) c.args.a.now c.args.b.now c.eq.result c.eq.ensures
