use Rattle.vt_paint.proofs.Whole.{short, ascii}
use Rattle.vt_paint.proofs.laws.sized_bounded.Goals as goal

pub returns : goal.returns
returns c = record { len = short; ascii = ascii }
