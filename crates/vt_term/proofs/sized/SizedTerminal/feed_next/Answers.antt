-- The bytes that the fronts played, and the first event after them.
use Rattle.std.proofs.Common.{arith}
use Rattle.vt_term.proofs.Bytes.{rest-of}
use Rattle.vt_term.proofs.OneSize.{feeds-one}
use Rattle.vt_term.proofs.Playing.{takes-rest, feeds-more, saw-more}
use Rattle.vt_term.proofs.sized.SizedTerminal.feed_next.Goals as goal

pub returns-clause-fed : goal.returns-clause-fed
returns-clause-fed g c =
    let piece = c.args.piece.now in
    let at = c.feed_between-at.result in
    feeds-more g.P.Profile.machine g.P.Profile.screens c.one_split.ensures _ _ _ _ _ _ piece at _ _ _ _ c.feed_between-at.ensures.fed
    (rw (rest-of piece at) at c.feed_by_parser-bytes-2.ensures.fed)

pub returns-clause-saw : goal.returns-clause-saw
returns-clause-saw g c =
    let piece = c.args.piece.now in
    let at = c.feed_between-at.result in
    saw-more g.O.Observer.Saw g.O.Observer.Takes g.met.O.Observer.joined g.P.Profile.machine g.P.Profile.screens c.one_split.ensures _ _ _ _ _ _ _ piece _ _ at _ c.soundness.ensures
    c.feed_between-at.ensures.fed
    c.feed_between-at.ensures.saw (rw (rest-of piece at) at c.feed_by_parser-bytes-2.ensures.saw)

pub feed_by_parser-bytes-requires-2-clause-takes : goal.feed_by_parser-bytes-requires-2-clause-takes
feed_by_parser-bytes-requires-2-clause-takes g c =
    takes-rest g.O.Observer.Saw g.O.Observer.Takes g.met.O.Observer.joined g.P.Profile.machine g.P.Profile.screens _ _ _ _ c.args.piece.now c.feed_between-at.result _
    (omega arith) c.feed_between-at.ensures.saw c.requires.takes

pub feed_by_parser-bytes-requires-2-clause-one_size : goal.feed_by_parser-bytes-requires-2-clause-one_size
feed_by_parser-bytes-requires-2-clause-one_size g c = feeds-one g.P.Profile.machine g.P.Profile.screens g.P.Profile.OneSize c.keeps_size.ensures _ _ _ _ _ _ _ c.feed_between-at.ensures.fed c.requires.one_size
