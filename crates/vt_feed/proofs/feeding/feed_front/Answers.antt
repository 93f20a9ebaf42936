use Rattle.vt_feed.proofs.Fronts.{return-front, empty-front}
use Rattle.vt_feed.proofs.feeding.feed_front.Goals as goal

pub event_first-requires-clause-front : goal.event_first-requires-clause-front
event_first-requires-clause-front g c = return-front c.args.piece.now c.requires.some c.in-CarriageReturn.ensures.begins

pub event_first-requires-in-Empty-clause-front : goal.event_first-requires-in-Empty-clause-front
event_first-requires-in-Empty-clause-front g c = empty-front c.args.piece.now c.requires.some c.in-Empty.ensures.begins
