use Rattle.std.proofs.Common.{arith}
use Rattle.vt_syntax.proofs.Fronts.{front_single}
use Rattle.vt_syntax.proofs.front.Front.of.Goals as goal

pub returns-then-is_single_control : goal.returns-then-is_single_control
returns-then-is_single_control c = grind (arith, front_single)
