-- The lanes are bytes.
use Rattle.std.proofs.Common.{arith}
use Rattle.vt_syntax.proofs.Runs.{graphic_mask}
use Rattle.vt_syntax.proofs.graphic.GraphicByteClass.ends_8.Goals as goal

pub returns : goal.returns
returns c = graphic_mask 8 c.args.lanes c.fits-lanes.0 (omega arith) c.fits-lanes.1
