use Rattle.std.proofs.Common.{arith}
use Rattle.std.proofs.lemmas.Grind.{common_steps}
use Rattle.vt_syntax.proofs.lanes.end_of_slowly.Goals as goal

pub loop-at-preserved : goal.loop-at-preserved
loop-at-preserved g c = record { within = omega arith; so_far = grind (arith, common_steps) }

pub returns-else-has : goal.returns-else-has
returns-else-has g c = grind (arith, common_steps)

pub returns-after-loop-at : goal.returns-after-loop-at
returns-after-loop-at g c = grind (arith, common_steps)
