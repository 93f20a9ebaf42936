use Rattle.vt_screen.specs.Sizes.{vt220_size}
use Rattle.vt_paint.proofs.Speech.{speaks-ascii}
use Rattle.vt_paint.proofs.laws.spoken.Goals as goal

pub returns : goal.returns
returns c = record { repaint = c.sized_spoken.ensures vt220_size; ascii = speaks-ascii }
