use Rattle.vt_xterm_paint.proofs.Rebuilt.{rebuilds, size-of}
use Rattle.vt_xterm_paint.proofs.laws.sized_rebuilds.Goals as goal

pub returns : goal.returns
returns c = λ size w i.
    let sized = size-of size w i in
    rebuilds size sized c.one_split.ensures (c.sized_soundness.ensures.power_up size sized) (c.sized_soundness.ensures.play size)
    (c.sized_silence.ensures.silent size) w i
