use Rattle.vt_replay.proofs.Resizing.{settled_by, settled_without}
use Rattle.vt_replay.proofs.resized.is_now.Goals as goal

pub returns-in-Some : goal.returns-in-Some
returns-in-Some g c = settled_by c.args.later.now.items c.args.left c.in-Some.ensures.item.0

pub returns-in-None : goal.returns-in-None
returns-in-None g c = settled_without c.args.later.now.items c.args.left c.in-None.ensures.item.0
