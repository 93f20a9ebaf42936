use Rattle.vt_term.proofs.Equal.{Decides-modes}
use Rattle.vt_term.proofs.same.same_modes.Goals as goal

pub returns : goal.returns
returns c = rw c.eq.ensures (Decides-modes c.args.a.now c.args.b.now)
