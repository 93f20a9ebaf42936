use Rattle.vt_xterm_paint.proofs.Rebuilt.{rebuilds-pending}
use Rattle.vt_xterm_paint.proofs.laws.sized_pending.Goals as goal

pub returns : goal.returns
returns c = λ size. rebuilds-pending size (c.sized_rebuilds.ensures size)
