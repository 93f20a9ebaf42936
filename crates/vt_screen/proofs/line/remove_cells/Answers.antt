use Rattle.std.proofs.Common.{arith}
use Rattle.std.proofs.lemmas.Grind.{common_steps, elements}
use Rattle.vt_screen.proofs.line.remove_cells.Goals as goal

pub returns-clause-moved : goal.returns-clause-moved
returns-clause-moved g c = grind (arith, common_steps)

pub returns-clause-end : goal.returns-clause-end
returns-clause-end g c = grind (arith, elements)

pub returns-clause-front : goal.returns-clause-front
returns-clause-front g c = grind (arith, common_steps)
