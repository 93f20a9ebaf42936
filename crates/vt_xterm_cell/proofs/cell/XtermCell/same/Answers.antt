use Rattle.vt_xterm_cell.proofs.Digits.{same_looks}
use Rattle.vt_xterm_cell.proofs.cell.XtermCell.same.Goals as goal

pub returns-then-self-other : goal.returns-then-self-other
returns-then-self-other c =
    rw (← c.self.view_is, ← c.other.view_is)
    (same_looks _ _ _ _ c.self.invariant.1 c.other.invariant.1 c.if-self-other.true)
