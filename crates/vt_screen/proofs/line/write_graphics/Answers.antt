use Rattle.std.proofs.Common.{arith}
use Rattle.std.proofs.lemmas.Grind.{elements}
use Rattle.vt_screen.proofs.line.write_graphics.Goals as goal

pub loop-at-preserved : goal.loop-at-preserved
loop-at-preserved c = record { within = omega arith; written = λ k below. grind (arith, elements) }

pub loop-at-2-preserved : goal.loop-at-2-preserved
loop-at-2-preserved c = record { within = omega arith; written = λ k below. grind (arith, elements) }
