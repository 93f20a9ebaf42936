use Rattle.vt_paint.proofs.Canonical.{same, again, sized}
use Rattle.vt_paint.proofs.laws.sized_canonical.Goals as goal

pub returns : goal.returns
returns c =
    let start = c.sized_soundness.ensures.power_up in
    let rebuilds = c.sized_rebuilds.ensures in
    record {
      same = λ size s u i. same size (rebuilds size) (start size (sized size s i)) s u i;
      again = λ size s t i. again size (rebuilds size) (start size (sized size s i)) s t i;
      reached = λ size s is between. c.sized_reached.ensures size s is;
    }
