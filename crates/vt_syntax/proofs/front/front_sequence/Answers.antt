use Rattle.std.proofs.Common.{arith}
use Rattle.vt_syntax.proofs.Fronts.{front_control}
use Rattle.vt_syntax.proofs.front.front_sequence.Goals as goal

pub returns-then-last-lt127 : goal.returns-then-last-lt127
returns-then-last-lt127 c = grind (arith, front_control)
