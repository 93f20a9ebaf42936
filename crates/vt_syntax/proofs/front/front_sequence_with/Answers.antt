use Rattle.std.proofs.Common.{rules}
use Rattle.vt_syntax.proofs.Fronts.{front_control_with}
use Rattle.vt_syntax.proofs.front.front_sequence_with.Goals as goal

pub returns : goal.returns
returns c = search (rules, front_control_with)
