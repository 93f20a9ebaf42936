use Rattle.vt_xterm_cell.proofs.Digits.{joined_is}
use Rattle.vt_xterm_cell.proofs.cell.joined.Goals as goal

pub returns-clause-look : goal.returns-clause-look
returns-clause-look c = joined_is _ _ _ c.requires.foreground c.requires.background
