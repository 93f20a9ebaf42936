use Rattle.std.proofs.Common.{arith}
use Rattle.vt_xterm_cell.proofs.Readings.{finished}
use Rattle.vt_xterm_cell.proofs.cell.XtermCell.render.Goals as goal

pub returns : goal.returns
returns c = finished c.args.params.now c.loop-at.at _ _ (omega arith) c.loop-at.invariant
