-- The front of the rest is played, too.
use Rattle.std.proofs.Common.{◌≡◌, ◌-◌, length, arith, refl}
use Rattle.vt_term.proofs.Bytes.{behind, taken-more, behind-more}
use Rattle.vt_term.proofs.OneSize.{feeds-one}
use Rattle.vt_term.proofs.Playing.{takes-rest, feeds-nothing, feeds-rest, saw-rest}
use Rattle.vt_term.proofs.sized.SizedTerminal.feed_between.Goals as goal

pub loop-rest-init : goal.loop-rest-init
loop-rest-init g c =
    let none : length c.args.piece.now - length c.args.piece.now ≡ 0 = omega arith in record {
      within = omega arith;
      rest = rw none refl;
      between = c.requires.between;
      fed = rw none (feeds-nothing g.P.Profile.machine g.P.Profile.screens c.one_split.ensures c.args.self.now c.args.profile.now c.args.out.now.items c.soundness.ensures);
      saw = rw none (g.met.O.Observer.joined.nothing c.args.observer.now);
      bounded = omega arith;
      capacity = omega arith;
    }

pub returns-then-stops-clause-fed : goal.returns-then-stops-clause-fed
returns-then-stops-clause-fed g c =
    let piece = c.args.piece.now in
    let rest = c.loop-rest.rest.now in
    let n = c.feed_front-bytes.result in
    let none : n ≡ 0 = omega arith in
    let same : length piece - length (behind n rest) ≡ length piece - length rest =
    omega (arith, taken-more piece rest n c.loop-rest.invariant.within c.feed_front-bytes.ensures.within, none) in
    rw (← same) (feeds-rest g.P.Profile.machine g.P.Profile.screens c.one_split.ensures _ _ _ _ _ _ piece rest n _ _ _
    c.loop-rest.invariant.within c.feed_front-bytes.ensures.within c.loop-rest.invariant.rest
    c.loop-rest.invariant.fed c.feed_front-bytes.ensures.fed)

pub returns-then-stops-clause-saw : goal.returns-then-stops-clause-saw
returns-then-stops-clause-saw g c =
    let piece = c.args.piece.now in
    let rest = c.loop-rest.rest.now in
    let n = c.feed_front-bytes.result in
    let none : n ≡ 0 = omega arith in
    let same : length piece - length (behind n rest) ≡ length piece - length rest =
    omega (arith, taken-more piece rest n c.loop-rest.invariant.within c.feed_front-bytes.ensures.within, none) in
    rw (← same) (saw-rest g.O.Observer.Saw g.O.Observer.Takes g.met.O.Observer.joined g.P.Profile.machine g.P.Profile.screens c.one_split.ensures _ _ _ _ _ _ _ piece rest _ _ n c.soundness.ensures
    c.loop-rest.invariant.within c.feed_front-bytes.ensures.within c.loop-rest.invariant.rest
    c.loop-rest.invariant.fed c.loop-rest.invariant.saw c.feed_front-bytes.ensures.saw)

pub loop-rest-preserved : goal.loop-rest-preserved
loop-rest-preserved g c =
    let piece = c.args.piece.now in
    let rest = c.loop-rest.rest.now in
    let n = c.feed_front-bytes.result in
    let within = c.loop-rest.invariant.within in
    let fits = c.feed_front-bytes.ensures.within in
    let more = taken-more piece rest n within fits in
    let between = c.feed_front-bytes.ensures.between in record {
      within = omega (arith, more);
      rest = behind-more piece rest n within fits c.loop-rest.invariant.rest;
      between = between;
      fed = feeds-rest g.P.Profile.machine g.P.Profile.screens c.one_split.ensures _ _ _ _ _ _ piece rest n _ _ _ within fits c.loop-rest.invariant.rest
          c.loop-rest.invariant.fed c.feed_front-bytes.ensures.fed;
      saw = saw-rest g.O.Observer.Saw g.O.Observer.Takes g.met.O.Observer.joined g.P.Profile.machine g.P.Profile.screens c.one_split.ensures _ _ _ _ _ _ _ piece rest _ _ n c.soundness.ensures within fits
          c.loop-rest.invariant.rest c.loop-rest.invariant.fed c.loop-rest.invariant.saw c.feed_front-bytes.ensures.saw;
      bounded = omega (arith, more);
      capacity = omega arith;
    }

pub feed_front-bytes-requires-clause-takes : goal.feed_front-bytes-requires-clause-takes
feed_front-bytes-requires-clause-takes g c =
    takes-rest g.O.Observer.Saw g.O.Observer.Takes g.met.O.Observer.joined g.P.Profile.machine g.P.Profile.screens _ _ _ _ c.args.piece.now
    (length c.args.piece.now - length c.loop-rest.rest.now) _ (omega (arith, c.loop-rest.invariant.within))
    c.loop-rest.invariant.saw c.requires.takes

pub feed_front-bytes-requires-clause-one_size : goal.feed_front-bytes-requires-clause-one_size
feed_front-bytes-requires-clause-one_size g c = feeds-one g.P.Profile.machine g.P.Profile.screens g.P.Profile.OneSize c.keeps_size.ensures _ _ _ _ _ _ _ c.loop-rest.invariant.fed c.requires.one_size
