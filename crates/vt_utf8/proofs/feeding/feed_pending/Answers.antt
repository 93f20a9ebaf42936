use Rattle.std.proofs.Common.{ℕ, ◌≤◌, arith, subst}
use Rattle.std.proofs.lemmas.List.{take-take, length-take-le}
use Rattle.vt_utf8.specs.Sinks.{point}
use Rattle.vt_utf8.proofs.CutOff.{front-cut}
use Rattle.vt_utf8.proofs.Fed.{take-one, feeds-nothing}
use Rattle.vt_utf8.proofs.feeding.feed_pending.Goals as goal

pub returns-then-is_full-clause-fed : goal.returns-then-is_full-clause-fed
returns-then-is_full-clause-fed g c =
    feeds-nothing g.S.Sink.Takes g.S.Sink.OneSize c.in_turn.ensures
    (point c.args.terminal.now c.args.sink.now c.args.log.now c.args.out.now.items) c.args.decoder.now c.soundness.ensures

pub feed_byte-requires-clause-lines_room : goal.feed_byte-requires-clause-lines_room
feed_byte-requires-clause-lines_room g c =
    subst (λ (n : ℕ). g.L.Log.HasRoom c.args.log.now n) c.requires.fits.twice c.if-is_full.ensures.room

pub feed_cut-requires-clause-lines_room : goal.feed_cut-requires-clause-lines_room
feed_cut-requires-clause-lines_room g c =
    subst (λ (n : ℕ). g.L.Log.HasRoom c.args.log.now n) c.requires.fits.twice c.if-is_full.ensures.room

pub returns-then-run-eq0-clause-fed : goal.returns-then-run-eq0-clause-fed
returns-then-run-eq0-clause-fed g c = rw (take-one c.args.piece.now c.requires.some) c.feed_byte.ensures.fed

pub returns-clause-fed : goal.returns-clause-fed
returns-clause-fed g c =
    let piece = c.args.piece.now in
    let run = c.cut_front-run in
    let n = c.feed_cut.result in
    let many : 1 ≤ run.result = omega (arith, c.if-run-eq0.false) in
    let less : n ≤ run.result = omega (arith, c.feed_cut.ensures.within, length-take-le run.result piece run.ensures.within) in
    rw (c.clear.ensures, ← take-take n run.result piece less) (c.feed_cut.ensures.fed c.args.decoder.now
    (front-cut c.args.decoder.now piece run.result many c.requires.some (run.ensures.cut many)))
