use Rattle.std.proofs.Common.{arith}
use Rattle.vt_xterm_paint.proofs.Vt220.{limit-small}
use Rattle.vt_xterm_paint.proofs.paint.xterm_paint_limit.Goals as goal

pub overflow_mul-result : goal.overflow_mul-result
overflow_mul-result c = omega (arith, c.paint_limit.ensures, limit-small c.args.size c.requires)

pub overflow_add-result : goal.overflow_add-result
overflow_add-result c = omega (arith, c.paint_limit.ensures, limit-small c.args.size c.requires)
