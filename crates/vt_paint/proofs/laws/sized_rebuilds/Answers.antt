use Rattle.vt_paint.proofs.Whole.{rebuilds_all}
use Rattle.vt_paint.proofs.laws.sized_rebuilds.Goals as goal

pub returns : goal.returns
returns c = rebuilds_all
