use Rattle.std.proofs.Common.{◌≡◌, ◌+◌, arith, length-drop}
use Rattle.vt_utf8.specs.Sinks.{point}
use Rattle.vt_utf8.proofs.Fed.{rest-of, still-fits, feeds-nothing, feeds-more}
use Rattle.vt_utf8.proofs.feeding.feed_characters.Goals as goal

pub feed_next-count-requires-clause-fits : goal.feed_next-count-requires-clause-fits
feed_next-count-requires-clause-fits g c =
    still-fits g.S.Sink.Takes g.S.Sink.OneSize c.in_turn.ensures g.S.Sink.most _ _ _ c.args.limit
    c.loop-at.invariant.fed.takes c.requires.fits

pub loop-at-init : goal.loop-at-init
loop-at-init g c = record {
  within = omega arith;
  fed = feeds-nothing g.S.Sink.Takes g.S.Sink.OneSize c.in_turn.ensures
      (point c.args.terminal.now c.args.sink.now c.args.log.now c.args.out.now.items) c.args.decoder.now c.soundness.ensures;
  grows = record { bounded = omega arith; capacity = omega arith };
}

pub loop-at-preserved : goal.loop-at-preserved
loop-at-preserved g c =
    let rest = rest-of c.args.piece.now c.loop-at.at in
    let next = c.feed_next-count in
    let inside = simp length-drop at (rw rest at next.ensures.within) in record {
      within = omega (arith, inside);
      fed = feeds-more g.S.Sink.Takes g.S.Sink.OneSize c.in_turn.ensures _ _ _ _ _ _ c.args.piece.now c.loop-at.at next.result
          c.soundness.ensures c.loop-at.invariant.fed (rw rest at next.ensures.fed);
      grows = record { bounded = omega arith; capacity = omega arith };
    }

-- the log is full, so the last call played no bytes
pub returns-then-count-eq0-clause-fed : goal.returns-then-count-eq0-clause-fed
returns-then-count-eq0-clause-fed g c =
    let next = c.feed_next-count in
    let none : c.loop-at.at + next.result ≡ c.loop-at.at = omega (arith, c.if-count-eq0.true) in
    rw none at (feeds-more g.S.Sink.Takes g.S.Sink.OneSize c.in_turn.ensures _ _ _ _ _ _ c.args.piece.now c.loop-at.at next.result
    c.soundness.ensures c.loop-at.invariant.fed (rw (rest-of c.args.piece.now c.loop-at.at) at next.ensures.fed))

pub returns-then-count-eq0-clause-grows : goal.returns-then-count-eq0-clause-grows
returns-then-count-eq0-clause-grows g c = record { bounded = omega (arith, c.if-count-eq0.true); capacity = omega arith }
