use Rattle.vt_xterm_cell.proofs.Numbers.{attributes_low}
use Rattle.vt_xterm_cell.proofs.cell.with_protection.Goals as goal

pub returns-clause-attributes : goal.returns-clause-attributes
returns-clause-attributes c = attributes_low c.args.flags _
