use Rattle.vt_xterm.proofs.OfOneSize.{unbounded-keeps}
use Rattle.vt_xterm.proofs.profile.SizedPagesProfile.keeps_size.Goals as goal

pub returns : goal.returns
returns c = unbounded-keeps c.glyphs.ensures c.soundness.ensures c.rows.ensures c.tests.ensures
