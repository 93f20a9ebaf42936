use Rattle.std.proofs.Common.{arith}
use Rattle.std.proofs.lemmas.Grind.{common_steps}
use Rattle.vt220_c.proofs.screen.write.Goals as goal

pub returns-in_default-clause-same : goal.returns-in_default-clause-same
returns-in_default-clause-same c = grind (arith, common_steps)

pub returns-in_default-clause-scratch : goal.returns-in_default-clause-scratch
returns-in_default-clause-scratch c = grind (arith, common_steps)

pub returns-in_default-clause-closed : goal.returns-in_default-clause-closed
returns-in_default-clause-closed c = grind (arith, common_steps)

pub returns-in_default-clause-none : goal.returns-in_default-clause-none
returns-in_default-clause-none c = grind (arith, common_steps)

pub returns-in_default-clause-answers : goal.returns-in_default-clause-answers
returns-in_default-clause-answers c = grind (arith, common_steps)

pub returns-in_default-clause-out : goal.returns-in_default-clause-out
returns-in_default-clause-out c = grind (arith, common_steps)

pub returns-in_default-clause-unchanged : goal.returns-in_default-clause-unchanged
returns-in_default-clause-unchanged c = grind (arith, common_steps)

pub returns-in_default-take-clause-same : goal.returns-in_default-take-clause-same
returns-in_default-take-clause-same c = grind (arith, common_steps)

pub returns-in_default-take-clause-scratch : goal.returns-in_default-take-clause-scratch
returns-in_default-take-clause-scratch c = grind (arith, common_steps)

pub returns-in_default-take-clause-closed : goal.returns-in_default-take-clause-closed
returns-in_default-take-clause-closed c = grind (arith, common_steps)

pub returns-in_default-take-clause-none : goal.returns-in_default-take-clause-none
returns-in_default-take-clause-none c = grind (arith, common_steps)

pub returns-in_default-take-clause-answers : goal.returns-in_default-take-clause-answers
returns-in_default-take-clause-answers c = grind (arith, common_steps)

pub returns-in_default-take-clause-out : goal.returns-in_default-take-clause-out
returns-in_default-take-clause-out c = grind (arith, common_steps)

pub returns-in_default-take-clause-unchanged : goal.returns-in_default-take-clause-unchanged
returns-in_default-take-clause-unchanged c = grind (arith, common_steps)

pub returns-clause-same : goal.returns-clause-same
returns-clause-same c = grind (arith, common_steps)

pub returns-clause-scratch : goal.returns-clause-scratch
returns-clause-scratch c = grind (arith, common_steps)

pub returns-clause-closed : goal.returns-clause-closed
returns-clause-closed c = grind (arith, common_steps)

pub returns-clause-none : goal.returns-clause-none
returns-clause-none c = grind (arith, common_steps)

pub returns-clause-answers : goal.returns-clause-answers
returns-clause-answers c = grind (arith, common_steps)

pub returns-clause-out : goal.returns-clause-out
returns-clause-out c = grind (arith, common_steps)

pub returns-clause-unchanged : goal.returns-clause-unchanged
returns-clause-unchanged c = grind (arith, common_steps)
