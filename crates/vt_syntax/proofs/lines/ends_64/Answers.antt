-- The lanes are bytes.
use Rattle.std.proofs.Common.{arith}
use Rattle.vt_syntax.proofs.Runs.{lines_mask}
use Rattle.vt_syntax.proofs.lines.ends_64.Goals as goal

pub returns : goal.returns
returns c = lines_mask 64 c.args.lanes c.fits-lanes.0 (omega arith) c.fits-lanes.1
