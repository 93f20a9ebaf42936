use Rattle.vt_xterm_paint.proofs.Rebuilt.{reached}
use Rattle.vt_xterm_paint.proofs.laws.reached.Goals as goal

pub returns : goal.returns
returns c =
    reached c.soundness.ensures.power_up c.rebuilds.ensures c.soundness-2.ensures.power_up c.soundness-2.ensures.play
    c.bounded.ensures.ascii
