use Rattle.std.proofs.Common.{[]}
use Rattle.vt_term.proofs.sized.SizedTerminal.escape_first.Goals as goal

pub event_first-requires-in-Some-front_short_escape-clause-front : goal.event_first-requires-in-Some-front_short_escape-clause-front
event_first-requires-in-Some-front_short_escape-clause-front g c = c.in-Some-front_short_escape.ensures.front []

pub returns-clause-fed : goal.returns-clause-fed
returns-clause-fed g c = rw c.by_parser.ensures.none (c.by_parser.ensures.nothing c.args.out.now.items)

pub returns-clause-saw : goal.returns-clause-saw
returns-clause-saw g c = rw c.by_parser.ensures.none c.by_parser.ensures.saw
