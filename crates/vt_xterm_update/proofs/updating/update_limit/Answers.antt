use Rattle.std.proofs.Common.{arith}
use Rattle.vt_xterm_update.proofs.Small.{repaint-small}
use Rattle.vt_xterm_update.proofs.updating.update_limit.Goals as goal

pub overflow_add-result : goal.overflow_add-result
overflow_add-result c = record { fits = omega (arith, c.repaint_limit.ensures, repaint-small c.args.size c.requires) }
