use Rattle.vt_screen.specs.Sizes.{vt220_size}
use Rattle.vt_xterm_paint.proofs.laws.canonical.Goals as goal

pub returns : goal.returns
returns c = c.sized_canonical.ensures vt220_size
