use Rattle.vt_xterm_update.proofs.Sizes.{size-kept}
use Rattle.vt_xterm_update.proofs.laws.sizes.Goals as goal

pub returns : goal.returns
returns c = size-kept c.sizes_kept.ensures.shown c.sizes_kept.ensures.other
