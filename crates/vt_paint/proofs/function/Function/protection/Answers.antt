use Rattle.std.specs.Fmt.{digits}
use Rattle.vt_paint.proofs.function.Function.protection.Goals as goal

pub returns-then-protected-clause-value : goal.returns-then-protected-clause-value
unfolding digits
returns-then-protected-clause-value c = rw c.if-protected.true c.sequence.ensures

pub returns-else-protected-clause-value : goal.returns-else-protected-clause-value
unfolding digits
returns-else-protected-clause-value c = rw c.if-protected.false c.sequence-else-protected.ensures
