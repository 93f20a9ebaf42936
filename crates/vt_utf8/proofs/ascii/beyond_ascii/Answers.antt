-- The lanes are bytes.
use Rattle.std.proofs.Common.{arith}
use Rattle.vt_utf8.proofs.Lanes.{ascii_mask}
use Rattle.vt_utf8.proofs.ascii.beyond_ascii.Goals as goal

pub returns : goal.returns
returns c = ascii_mask 16 c.args.lanes c.fits-lanes.0 (omega arith) c.fits-lanes.1
