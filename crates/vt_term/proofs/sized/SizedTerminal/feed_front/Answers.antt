use Rattle.std.proofs.Common.{arith, inr}
use Rattle.vt_term.proofs.Bytes.{graphic-front}
use Rattle.vt_term.proofs.sized.SizedTerminal.feed_front.Goals as goal

pub event_first-requires-in-Empty-clause-front : goal.event_first-requires-in-Empty-clause-front
event_first-requires-in-Empty-clause-front g c =
    graphic-front c.args.piece.now c.requires.some (inr (omega (arith, c.in-Empty.ensures.begins)))

pub returns-in-Introducer-clause-fed : goal.returns-in-Introducer-clause-fed
returns-in-Introducer-clause-fed g c =
    rw c.by_parser.ensures.none (c.by_parser.ensures.nothing c.args.out.now.items)

pub returns-in-Other-clause-fed : goal.returns-in-Other-clause-fed
returns-in-Other-clause-fed g c =
    rw c.by_parser-in-Other.ensures.none (c.by_parser-in-Other.ensures.nothing c.args.out.now.items)
