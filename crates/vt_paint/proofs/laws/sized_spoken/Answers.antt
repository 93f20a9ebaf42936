use Rattle.vt_paint.proofs.Whole.{speaks}
use Rattle.vt_paint.proofs.laws.sized_spoken.Goals as goal

pub returns : goal.returns
returns c = speaks
