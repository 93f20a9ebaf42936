use Rattle.std.proofs.Common.{[]}
use Rattle.vt_feed.proofs.feeding.feed_escape.Goals as goal

pub event_first-requires-in-Some-front_short_escape-clause-front : goal.event_first-requires-in-Some-front_short_escape-clause-front
event_first-requires-in-Some-front_short_escape-clause-front g c = c.in-Some-front_short_escape.ensures.front []
