use Rattle.std.specs.Fmt.{digits}
use Rattle.vt_xterm_paint.proofs.paint.push_page.Goals as goal

pub returns-then-alternate-clause-items : goal.returns-then-alternate-clause-items
unfolding digits
returns-then-alternate-clause-items c = rw c.if-alternate.true c.push_bytes.ensures.items

pub returns-else-alternate-clause-items : goal.returns-else-alternate-clause-items
unfolding digits
returns-else-alternate-clause-items c = rw c.if-alternate.false c.push_bytes-else-alternate.ensures.items
