use Rattle.std.proofs.Common.{refl}
use Rattle.vt_screen.specs.Sizes.{vt220_size}
use Rattle.vt_picture.proofs.RowLimits.{vt220_drawn}
use Rattle.vt_picture.proofs.laws.vt220_limits.Goals as goal

pub returns-clause-draw : goal.returns-clause-draw
returns-clause-draw c = vt220_drawn vt220_size refl
