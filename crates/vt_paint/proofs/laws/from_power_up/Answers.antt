use Rattle.vt_paint.proofs.laws.from_power_up.Goals as goal

pub returns : goal.returns
returns c = record {
  rebuilds = λ s t i j between. c.rebuilds.ensures s ((c.reached.ensures s).1 i) between t ((c.reached.ensures t).1 j);
  identifies = λ s u i j. c.canonical.ensures.same s u ((c.reached.ensures s).1 i) ((c.reached.ensures u).1 j);
}
