use Rattle.std.specs.Fmt.{digits}
use Rattle.vt_xterm_paint.proofs.paint.push_sided.Goals as goal

pub returns-clause-items : goal.returns-clause-items
unfolding digits
returns-clause-items c = c.push_bytes.ensures.items
