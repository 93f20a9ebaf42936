use Rattle.std.proofs.Common.{arith}
use Rattle.std.proofs.lemmas.Grind.{common_steps, elements}
use Rattle.vt_screen.proofs.line.write_four_graphics.Goals as goal

pub returns-clause-here : goal.returns-clause-here
returns-clause-here c = grind (arith, elements)

pub returns-clause-front : goal.returns-clause-front
returns-clause-front c = grind (arith, common_steps)
