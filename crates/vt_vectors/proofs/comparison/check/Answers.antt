use Rattle.vt_vectors.proofs.comparison.check.Goals as goal

pub returns : goal.returns
returns g = g.check.ensures.compares
