use Rattle.vt220_c.proofs.Telling.{utf8-are-told}
use Rattle.vt220_c.proofs.player.DecoderPlayer.cuts.Goals as goal

pub returns : goal.returns
returns c =
    utf8-are-told c.one_split.ensures c.sized_cuts.ensures.none c.sized_cuts.ensures.two c.sized_cuts.ensures.pending
    c.sized_cuts.ensures.translated c.sized_log_cuts.ensures.none c.sized_log_cuts.ensures.two
