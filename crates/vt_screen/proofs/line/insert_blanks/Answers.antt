use Rattle.std.proofs.Common.{arith}
use Rattle.std.proofs.lemmas.Grind.{common_steps, elements}
use Rattle.vt_screen.proofs.line.insert_blanks.Goals as goal

pub returns-clause-gap : goal.returns-clause-gap
returns-clause-gap g c = grind (arith, elements)

pub returns-clause-moved : goal.returns-clause-moved
returns-clause-moved g c = grind (arith, elements)

pub returns-clause-front : goal.returns-clause-front
returns-clause-front g c = grind (arith, common_steps)
