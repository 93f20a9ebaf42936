use Rattle.std.proofs.Common.{refl}
use Rattle.vt_paint.specs.Limits.{row_digits, row_limit}
use Rattle.vt_paint.proofs.laws.vt220_limit.Goals as goal

pub returns : goal.returns
unfolding row_limit row_digits
returns c = refl
