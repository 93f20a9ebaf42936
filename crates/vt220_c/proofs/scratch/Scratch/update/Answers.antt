use Rattle.std.proofs.Common.{arith}
use Rattle.std.proofs.lemmas.Grind.{common_steps}
use Rattle.vt220_c.proofs.scratch.Scratch.update.Goals as goal

pub invariant_of-self : goal.invariant_of-self
invariant_of-self c = grind (arith, common_steps)

pub invariant_of-self-else-copied : goal.invariant_of-self-else-copied
invariant_of-self-else-copied c = grind (arith, common_steps)

pub returns-then-copied-clause-fits : goal.returns-then-copied-clause-fits
returns-then-copied-clause-fits c = grind (arith, common_steps)

pub returns-then-copied-clause-shown : goal.returns-then-copied-clause-shown
returns-then-copied-clause-shown c = grind (arith, common_steps)

pub returns-then-copied-clause-out : goal.returns-then-copied-clause-out
returns-then-copied-clause-out c = grind (arith, common_steps)

pub returns-then-copied-clause-unchanged : goal.returns-then-copied-clause-unchanged
returns-then-copied-clause-unchanged c = grind (arith, common_steps)

pub returns-then-copied-clause-nothing : goal.returns-then-copied-clause-nothing
returns-then-copied-clause-nothing c = grind (arith, common_steps)

pub returns-then-copied-clause-small : goal.returns-then-copied-clause-small
returns-then-copied-clause-small c = grind (arith, common_steps)

pub returns-then-copied-clause-bounded : goal.returns-then-copied-clause-bounded
returns-then-copied-clause-bounded c = grind (arith, common_steps)

pub returns-then-copied-clause-speaks : goal.returns-then-copied-clause-speaks
returns-then-copied-clause-speaks c = grind (arith, common_steps)

pub returns-then-copied-clause-ascii : goal.returns-then-copied-clause-ascii
returns-then-copied-clause-ascii c = grind (arith, common_steps)

pub returns-then-copied-clause-repaint : goal.returns-then-copied-clause-repaint
returns-then-copied-clause-repaint c = grind (arith, common_steps)

pub returns-else-copied-clause-fits : goal.returns-else-copied-clause-fits
returns-else-copied-clause-fits c = grind (arith, common_steps)

pub returns-else-copied-clause-shown : goal.returns-else-copied-clause-shown
returns-else-copied-clause-shown c = grind (arith, common_steps)

pub returns-else-copied-clause-out : goal.returns-else-copied-clause-out
returns-else-copied-clause-out c = grind (arith, common_steps)

pub returns-else-copied-clause-unchanged : goal.returns-else-copied-clause-unchanged
returns-else-copied-clause-unchanged c = grind (arith, common_steps)

pub returns-else-copied-clause-nothing : goal.returns-else-copied-clause-nothing
returns-else-copied-clause-nothing c = grind (arith, common_steps)

pub returns-else-copied-clause-small : goal.returns-else-copied-clause-small
returns-else-copied-clause-small c = grind (arith, common_steps)

pub returns-else-copied-clause-bounded : goal.returns-else-copied-clause-bounded
returns-else-copied-clause-bounded c = grind (arith, common_steps)

pub returns-else-copied-clause-speaks : goal.returns-else-copied-clause-speaks
returns-else-copied-clause-speaks c = grind (arith, common_steps)

pub returns-else-copied-clause-ascii : goal.returns-else-copied-clause-ascii
returns-else-copied-clause-ascii c = grind (arith, common_steps)

pub returns-else-copied-clause-repaint : goal.returns-else-copied-clause-repaint
returns-else-copied-clause-repaint c = grind (arith, common_steps)
