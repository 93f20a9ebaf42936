use Rattle.vt_replay.proofs.Resizing.{front_all}
use Rattle.vt_replay.proofs.resized.front_of.Goals as goal

pub returns-in-None-clause-takes : goal.returns-in-None-clause-takes
returns-in-None-clause-takes g c = front_all c.args.later.now.items c.args.count c.args.left c.in-None.ensures.item.0
