use Rattle.std.specs.Fmt.{digits}
use Rattle.vt_paint.proofs.function.Function.all_attributes.Goals as goal

pub returns-clause-value : goal.returns-clause-value
unfolding digits
returns-clause-value c = c.sequence.ensures
