use Rattle.vt_screen.specs.Sizes.{vt220_size}
use Rattle.vt_paint.proofs.Canonical.{vt220-sized}
use Rattle.vt_paint.proofs.laws.reached.Goals as goal

pub returns : goal.returns
returns c = λ s. c.sized_reached.ensures vt220_size s vt220-sized
