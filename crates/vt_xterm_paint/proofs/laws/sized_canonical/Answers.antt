use Rattle.vt_xterm_paint.proofs.Rebuilt.{same, size-of}
use Rattle.vt_xterm_paint.proofs.laws.sized_canonical.Goals as goal

pub returns : goal.returns
returns c = λ size w v i.
    same size (c.sized_soundness.ensures.power_up size (size-of size w i)) (c.sized_rebuilds.ensures size) w v i
