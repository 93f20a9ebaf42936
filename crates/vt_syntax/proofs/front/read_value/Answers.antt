use Rattle.std.proofs.Common.{arith}
use Rattle.vt_syntax.proofs.Fronts.{digits}
use Rattle.vt_syntax.proofs.front.read_value.Goals as goal

pub returns-in_default-digit-clause-reads : goal.returns-in_default-digit-clause-reads
returns-in_default-digit-clause-reads c = grind (arith, digits)

pub returns-in_default-digit-2-clause-reads : goal.returns-in_default-digit-2-clause-reads
returns-in_default-digit-2-clause-reads c = grind (arith, digits)

pub returns-clause-reads : goal.returns-clause-reads
returns-clause-reads c = grind (arith, digits)
