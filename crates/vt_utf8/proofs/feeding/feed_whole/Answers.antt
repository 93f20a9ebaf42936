use Rattle.std.proofs.Common.{ℕ, subst}
use Rattle.vt_utf8.specs.Sinks.{point}
use Rattle.vt_utf8.proofs.Fed.{take-one, feeds-nothing, feeds-whole}
use Rattle.vt_utf8.proofs.Logged.{room-once}
use Rattle.vt_utf8.proofs.feeding.feed_whole.Goals as goal

pub returns-then-is_full-clause-fed : goal.returns-then-is_full-clause-fed
returns-then-is_full-clause-fed g c =
    feeds-nothing g.S.Sink.Takes g.S.Sink.OneSize c.in_turn.ensures
    (point c.args.terminal.now c.args.sink.now c.args.log.now c.args.out.now.items) c.args.decoder.now c.soundness.ensures

pub take_beyond-requires-clause-lines_room : goal.take_beyond-requires-clause-lines_room
take_beyond-requires-clause-lines_room g c =
    room-once g.L.Log.Keeps g.L.Log.HasRoom g.L.Log.IsFull g.met.L.Log.kept c.args.log.now _
    (subst (λ (n : ℕ). g.L.Log.HasRoom c.args.log.now n) c.requires.fits.twice c.if-is_full.ensures.room)

pub feed_byte-requires-clause-lines_room : goal.feed_byte-requires-clause-lines_room
feed_byte-requires-clause-lines_room g c =
    subst (λ (n : ℕ). g.L.Log.HasRoom c.args.log.now n) c.requires.fits.twice c.if-is_full.ensures.room

pub returns-in-Some-clause-fed : goal.returns-in-Some-clause-fed
returns-in-Some-clause-fed g c =
    feeds-whole g.S.Sink.Takes _ _ c.args.decoder.now c.args.piece.now c.in-Some.c c.in-Some.size c.requires.nothing
    c.in-Some.ensures.1 c.take_beyond.ensures.takes

pub returns-in-None-clause-fed : goal.returns-in-None-clause-fed
returns-in-None-clause-fed g c = rw (take-one c.args.piece.now c.requires.some) c.feed_byte.ensures.fed
