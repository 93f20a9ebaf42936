use Rattle.vt_xterm.proofs.OfOneSize.{xterm-keeps}
use Rattle.vt_xterm.proofs.playing.size_stays.Goals as goal

pub returns : goal.returns
returns c = xterm-keeps c.glyphs.ensures c.soundness.ensures c.rows.ensures c.tests.ensures
