use Rattle.std.proofs.Common.{◌≡◌, arith}
use Rattle.vt_term.proofs.Bytes.{return-front, feed-behind, rest-of}
use Rattle.vt_term.proofs.OneSize.{feeds-one}
use Rattle.vt_term.proofs.Playing.{takes-rest, feeds-more, saw-more}
use Rattle.vt_term.proofs.sized.SizedTerminal.carriage_return_first.Goals as goal

pub event_first-first-requires-clause-front : goal.event_first-first-requires-clause-front
event_first-first-requires-clause-front g c = return-front c.args.piece.now c.requires.some c.requires.carriage_return

pub event_first-second-requires-clause-front : goal.event_first-second-requires-clause-front
event_first-second-requires-clause-front g c = feed-behind c.args.piece.now c.if-piece-lt2.false c.if-piece-ne-LF.false

pub returns-clause-fed : goal.returns-clause-fed
returns-clause-fed g c =
    let one : c.event_first-first.result ≡ 1 = c.event_first-first.ensures.whole (omega (arith, c.if-first-eq0.false)) in
    feeds-more g.P.Profile.machine g.P.Profile.screens c.one_split.ensures _ _ _ _ _ _ c.args.piece.now 1 c.event_first-second.result _ _ _
    (rw one at c.event_first-first.ensures.fed) (rw (rest-of c.args.piece.now 1) at c.event_first-second.ensures.fed)

pub returns-clause-saw : goal.returns-clause-saw
returns-clause-saw g c =
    let one : c.event_first-first.result ≡ 1 = c.event_first-first.ensures.whole (omega (arith, c.if-first-eq0.false)) in
    saw-more g.O.Observer.Saw g.O.Observer.Takes g.met.O.Observer.joined g.P.Profile.machine g.P.Profile.screens c.one_split.ensures _ _ _ _ _ _ _ c.args.piece.now _ _ 1
    c.event_first-second.result c.soundness.ensures (rw one at c.event_first-first.ensures.fed)
    (rw one at c.event_first-first.ensures.saw)
    (rw (rest-of c.args.piece.now 1) at c.event_first-second.ensures.saw)

pub event_first-second-requires-clause-takes : goal.event_first-second-requires-clause-takes
event_first-second-requires-clause-takes g c =
    let one : c.event_first-first.result ≡ 1 = c.event_first-first.ensures.whole (omega (arith, c.if-first-eq0.false)) in
    takes-rest g.O.Observer.Saw g.O.Observer.Takes g.met.O.Observer.joined g.P.Profile.machine g.P.Profile.screens _ _ _ _ c.args.piece.now 1 _ (omega arith)
    (rw one at c.event_first-first.ensures.saw) c.requires.takes

pub event_first-second-requires-clause-one_size : goal.event_first-second-requires-clause-one_size
event_first-second-requires-clause-one_size g c = feeds-one g.P.Profile.machine g.P.Profile.screens g.P.Profile.OneSize c.keeps_size.ensures _ _ _ _ _ _ _ c.event_first-first.ensures.fed c.requires.one_size
