use Rattle.std.specs.Fmt.{digits}
use Rattle.vt_xterm_paint.proofs.paint.push_resizes.Goals as goal

pub returns-then-on-clause-items : goal.returns-then-on-clause-items
unfolding digits
returns-then-on-clause-items c = rw c.if-on.true c.push_bytes.ensures.items

pub returns-else-on-clause-items : goal.returns-else-on-clause-items
unfolding digits
returns-else-on-clause-items c = rw c.if-on.false c.push_bytes-else-on.ensures.items
