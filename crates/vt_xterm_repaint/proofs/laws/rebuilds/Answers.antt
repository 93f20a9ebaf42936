use Rattle.vt_xterm_repaint.proofs.Played.{repaint-rebuilds}
use Rattle.vt_xterm_repaint.proofs.laws.rebuilds.Goals as goal

pub returns : goal.returns
returns c =
    let laws = c.spelled.ensures in
    repaint-rebuilds laws.escape_asked laws.escape_left laws.given_up
