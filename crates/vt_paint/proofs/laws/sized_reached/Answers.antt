use Rattle.vt_paint.proofs.Canonical.{reached}
use Rattle.vt_paint.proofs.laws.sized_reached.Goals as goal

pub returns : goal.returns
returns c = λ size s is.
    reached size c.one_split.ensures c.sized_cuts.ensures.two (c.sized_bounded.ensures.ascii size)
    (c.sized_soundness.ensures.power_up size is) (c.sized_soundness.ensures.play size) s
