use Rattle.vt_xterm_repaint.proofs.Rendered.{look-rendered}
use Rattle.vt_xterm_repaint.proofs.Selected.{look-selected, look-silent}
use Rattle.vt_xterm_repaint.proofs.laws.looks.Goals as goal

pub returns : goal.returns
returns c = record { rendered = look-rendered; selected = look-selected; silent = look-silent }
