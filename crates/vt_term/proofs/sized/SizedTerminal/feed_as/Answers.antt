use Rattle.std.proofs.Common.{arith, length-drop}
use Rattle.vt_term.proofs.Bytes.{rest-of}
use Rattle.vt_term.proofs.OneSize.{feeds-one}
use Rattle.vt_term.proofs.Playing.{takes-rest, feeds-nothing, feeds-more, saw-more}
use Rattle.vt_term.proofs.sized.SizedTerminal.feed_as.Goals as goal

pub loop-at-init : goal.loop-at-init
loop-at-init g c = record {
  within = omega arith;
  fed = feeds-nothing g.P.Profile.machine g.P.Profile.screens c.one_split.ensures c.args.self.now c.args.profile.now c.args.out.now.items c.soundness.ensures;
  saw = g.met.O.Observer.joined.nothing c.args.observer.now;
  bounded = omega arith;
  capacity = omega arith;
}

pub returns-then-stops-clause-fed : goal.returns-then-stops-clause-fed
returns-then-stops-clause-fed g c =
    feeds-more g.P.Profile.machine g.P.Profile.screens c.one_split.ensures _ _ _ _ _ _ c.args.piece.now c.loop-at.at
    c.feed_next-bytes.result.0 _ _ _ c.loop-at.invariant.fed (rw (rest-of c.args.piece.now c.loop-at.at) at c.feed_next-bytes.ensures.fed)

pub returns-then-stops-clause-saw : goal.returns-then-stops-clause-saw
returns-then-stops-clause-saw g c =
    saw-more g.O.Observer.Saw g.O.Observer.Takes g.met.O.Observer.joined g.P.Profile.machine g.P.Profile.screens c.one_split.ensures _ _ _ _ _ _ _ c.args.piece.now _ _ c.loop-at.at
    c.feed_next-bytes.result.0 c.soundness.ensures c.loop-at.invariant.fed c.loop-at.invariant.saw
    (rw (rest-of c.args.piece.now c.loop-at.at) at c.feed_next-bytes.ensures.saw)

pub loop-at-preserved : goal.loop-at-preserved
loop-at-preserved g c =
    let rest = rest-of c.args.piece.now c.loop-at.at in
    let inside = simp length-drop at (rw rest at c.feed_next-bytes.ensures.within) in record {
      within = omega (arith, inside);
      fed = feeds-more g.P.Profile.machine g.P.Profile.screens c.one_split.ensures _ _ _ _ _ _ c.args.piece.now c.loop-at.at c.feed_next-bytes.result.0 _ _ _
          c.loop-at.invariant.fed (rw rest at c.feed_next-bytes.ensures.fed);
      saw = saw-more g.O.Observer.Saw g.O.Observer.Takes g.met.O.Observer.joined g.P.Profile.machine g.P.Profile.screens c.one_split.ensures _ _ _ _ _ _ _ c.args.piece.now _ _ c.loop-at.at
          c.feed_next-bytes.result.0 c.soundness.ensures c.loop-at.invariant.fed c.loop-at.invariant.saw
          (rw rest at c.feed_next-bytes.ensures.saw);
      bounded = omega arith;
      capacity = omega arith;
    }

pub feed_next-bytes-requires-clause-takes : goal.feed_next-bytes-requires-clause-takes
feed_next-bytes-requires-clause-takes g c =
    takes-rest g.O.Observer.Saw g.O.Observer.Takes g.met.O.Observer.joined g.P.Profile.machine g.P.Profile.screens _ _ _ _ c.args.piece.now c.loop-at.at _
    (omega (arith, length-drop c.loop-at.at c.args.piece.now)) c.loop-at.invariant.saw c.requires.takes

pub feed_next-bytes-requires-clause-one_size : goal.feed_next-bytes-requires-clause-one_size
feed_next-bytes-requires-clause-one_size g c = feeds-one g.P.Profile.machine g.P.Profile.screens g.P.Profile.OneSize c.keeps_size.ensures _ _ _ _ _ _ _ c.loop-at.invariant.fed c.requires.one_size
