use Rattle.std.proofs.Common.{refl}
use Rattle.vt_render.specs.Limits.{shown_row_limit}
use Rattle.vt_render.proofs.limits.show_limit.Goals as goal

pub returns : goal.returns
unfolding shown_row_limit
returns c = refl
