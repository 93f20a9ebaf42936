-- The lanes are bytes.
use Rattle.std.proofs.Common.{arith}
use Rattle.vt_syntax.proofs.Runs.{plain_mask}
use Rattle.vt_syntax.proofs.plain.PlainByteClass.ends_16.Goals as goal

pub returns : goal.returns
returns c = plain_mask 16 c.args.lanes c.fits-lanes.0 (omega arith) c.fits-lanes.1
