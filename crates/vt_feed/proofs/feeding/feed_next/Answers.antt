use Rattle.std.proofs.Common.{◌≡◌, ◌+◌, arith, refl, drop}
use Rattle.vt_feed.specs.Languages.{eight_bit}
use Rattle.vt_feed.proofs.Playing.{saw-more}
use Rattle.vt_feed.proofs.feeding.feed_next.Goals as goal

pub returns-clause-saw : goal.returns-clause-saw
returns-clause-saw g c =
    let at = c.feed_between-at.result in
    let piece = c.args.piece.now in
    let none : at ≡ 0 = omega arith in
    let same : at + c.feed_by_parser-2.result ≡ c.feed_by_parser-2.result = omega (arith, none) in
    let whole : drop at piece ≡ piece = rw none refl in
    let saw = saw-more eight_bit g.M.Machine.machine g.O.Observer.Saw g.met.O.Observer.joined _ _ _ _ _ _ _ piece _ _ at
    c.feed_by_parser-2.result c.feed_between-at.ensures.plays c.feed_between-at.ensures.saw
    (rw (← whole) at c.feed_by_parser-2.ensures.saw) in
    rw same at saw
