use Rattle.std.proofs.Common.{refl}
use Rattle.vt_xterm_log.proofs.Sizes.{action-kept}
use Rattle.vt_xterm_log.proofs.laws.sizes_kept.Goals as goal

pub returns : goal.returns
returns c = record {
  shown = λ action s same. (action-kept action s.shown.grid.size s (refl, same)).0;
  other = λ action s same. (action-kept action s.shown.grid.size s (refl, same)).1;
}
