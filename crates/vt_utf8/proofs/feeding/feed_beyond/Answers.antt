use Rattle.std.proofs.Common.{◌≡◌, arith}
use Rattle.vt_utf8.proofs.Fed.{still-fits, feeds-first, feeds-next}
use Rattle.vt_utf8.proofs.feeding.feed_beyond.Goals as goal

pub returns-then-text-gt0-clause-fed : goal.returns-then-text-gt0-clause-fed
returns-then-text-gt0-clause-fed g c =
    let text = c.take_text-text.ensures in
    feeds-first g.S.Sink.Takes _ _ c.args.decoder.now _ c.requires.nothing (text.takes c.args.log.now c.args.out.now.items) text.left

pub returns-then-text-gt0-clause-grows : goal.returns-then-text-gt0-clause-grows
returns-then-text-gt0-clause-grows g c = record { bounded = omega arith; capacity = omega arith }

pub feed_whole-requires-clause-fits : goal.feed_whole-requires-clause-fits
feed_whole-requires-clause-fits g c =
    still-fits g.S.Sink.Takes g.S.Sink.OneSize c.in_turn.ensures g.S.Sink.most _ _ _ c.args.limit
    (c.take_text-text.ensures.takes c.args.log.now c.args.out.now.items) c.requires.fits

pub returns-clause-fed : goal.returns-clause-fed
returns-clause-fed g c =
    let text = c.take_text-text in
    let zero : text.result ≡ 0 = omega (arith, c.if-text-gt0.false) in
    feeds-next g.S.Sink.Takes g.S.Sink.OneSize c.in_turn.ensures _ _ _ c.args.decoder.now c.args.piece.now _ _ text.result
    c.soundness.ensures zero (text.ensures.takes c.args.log.now c.args.out.now.items) c.feed_whole.ensures.fed
