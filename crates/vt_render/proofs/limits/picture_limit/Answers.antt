use Rattle.std.proofs.Common.{refl}
use Rattle.vt_render.specs.Limits.{alternative_row_limit, picture_row_limit}
use Rattle.vt_render.proofs.limits.picture_limit.Goals as goal

pub returns : goal.returns
unfolding alternative_row_limit picture_row_limit
returns c = refl
