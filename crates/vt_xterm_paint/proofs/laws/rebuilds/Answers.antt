use Rattle.vt_screen.specs.Sizes.{vt220_size}
use Rattle.vt_xterm_paint.proofs.laws.rebuilds.Goals as goal

pub returns : goal.returns
returns c = c.sized_rebuilds.ensures vt220_size
