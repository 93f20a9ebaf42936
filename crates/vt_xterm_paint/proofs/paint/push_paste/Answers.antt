use Rattle.std.specs.Fmt.{digits}
use Rattle.vt_xterm_paint.proofs.paint.push_paste.Goals as goal

pub returns-then-brackets-clause-items : goal.returns-then-brackets-clause-items
unfolding digits
returns-then-brackets-clause-items c = rw c.if-brackets.true c.push_bytes.ensures.items
