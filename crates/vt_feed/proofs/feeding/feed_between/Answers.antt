use Rattle.std.proofs.Common.{◌≡◌, ◌+◌, arith, length-drop}
use Rattle.vt_feed.proofs.Playing.{plays-nothing, plays-more, saw-more, rest-of}
use Rattle.vt_feed.specs.Languages.{eight_bit}
use Rattle.vt_feed.proofs.feeding.feed_between.Goals as goal

pub loop-at-init : goal.loop-at-init
loop-at-init g c = record {
  within = omega arith;
  between = c.requires.between;
  plays = plays-nothing eight_bit g.M.Machine.machine c.args.parser.now c.args.machine.now c.args.out.now.items;
  saw = g.met.O.Observer.joined.nothing c.args.observer.now;
  bounded = omega arith;
  capacity = omega arith;
}

pub loop-at-preserved : goal.loop-at-preserved
loop-at-preserved g c =
    let rest = rest-of c.args.piece.now c.loop-at.at in
    let inside = simp length-drop at (rw rest at c.feed_front-bytes.ensures.within) in record {
      within = omega (arith, inside);
      between = c.feed_front-bytes.ensures.between;
      plays = plays-more eight_bit g.M.Machine.machine _ _ _ _ _ _ c.args.piece.now c.loop-at.at c.feed_front-bytes.result _ _ _
          c.loop-at.invariant.plays (rw rest at c.feed_front-bytes.ensures.plays);
      saw = saw-more eight_bit g.M.Machine.machine g.O.Observer.Saw g.met.O.Observer.joined _ _ _ _ _ _ _ c.args.piece.now _ _ c.loop-at.at
          c.feed_front-bytes.result c.loop-at.invariant.plays c.loop-at.invariant.saw (rw rest at c.feed_front-bytes.ensures.saw);
      bounded = omega arith;
      capacity = omega arith;
    }

pub returns-then-bytes-eq0-clause-saw : goal.returns-then-bytes-eq0-clause-saw
returns-then-bytes-eq0-clause-saw g c =
    let none : c.feed_front-bytes.result ≡ 0 = omega arith in
    let same : c.loop-at.at + c.feed_front-bytes.result ≡ c.loop-at.at = omega (arith, none) in
    rw same at (saw-more eight_bit g.M.Machine.machine g.O.Observer.Saw g.met.O.Observer.joined _ _ _ _ _ _ _ c.args.piece.now _ _ c.loop-at.at
    c.feed_front-bytes.result c.loop-at.invariant.plays c.loop-at.invariant.saw
    (rw (rest-of c.args.piece.now c.loop-at.at) at c.feed_front-bytes.ensures.saw))
