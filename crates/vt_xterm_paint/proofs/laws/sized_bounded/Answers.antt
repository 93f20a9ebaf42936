use Rattle.vt_xterm_paint.proofs.Rebuilt.{short, ascii, size-of}
use Rattle.vt_xterm_paint.proofs.laws.sized_bounded.Goals as goal

pub returns : goal.returns
returns c = record {
  len = λ size w i. short size w (c.sized_soundness.ensures.power_up size (size-of size w i)) i;
  ascii = λ size w i. ascii size w (c.sized_soundness.ensures.power_up size (size-of size w i)) i;
}
