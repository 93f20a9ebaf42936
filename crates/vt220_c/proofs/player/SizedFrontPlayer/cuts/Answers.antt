use Rattle.vt220_c.proofs.Telling.{xterm-are-told}
use Rattle.vt220_c.proofs.player.SizedFrontPlayer.cuts.Goals as goal

pub returns : goal.returns
returns c = xterm-are-told c.cuts.ensures.two c.sized_cuts.ensures.pending c.log_cuts.ensures.two
