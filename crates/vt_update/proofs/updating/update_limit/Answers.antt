use Rattle.std.proofs.Common.{arith}
use Rattle.vt_paint.proofs.RowLimits.{paint-small}
use Rattle.vt_update.proofs.updating.update_limit.Goals as goal

pub overflow_add-result : goal.overflow_add-result
overflow_add-result c = record { fits = omega (arith, c.paint_limit.ensures, paint-small c.args.size c.requires) }
