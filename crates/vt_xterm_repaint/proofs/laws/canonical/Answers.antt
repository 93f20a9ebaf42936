use Rattle.vt_xterm_repaint.proofs.Played.{repaint-canonical}
use Rattle.vt_xterm_repaint.proofs.laws.canonical.Goals as goal

pub returns : goal.returns
returns c = repaint-canonical c.spelled.ensures.asked
