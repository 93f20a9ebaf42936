use Rattle.std.proofs.Common.{sym, subst}
use Rattle.vt_screen.specs.declared.size.Size.{Size}
use Rattle.vt_utf8.proofs.Fed.{feeds-byte}
use Rattle.vt_utf8.proofs.feeding.feed_byte.Goals as goal

pub feed_completed-requires-clause-lines_room : goal.feed_completed-requires-clause-lines_room
feed_completed-requires-clause-lines_room g c =
    subst (λ (size : Size). g.L.Log.HasRoom c.feed_lost.new.log (g.S.Sink.most size))
    (sym (c.in_turn.ensures.size _ _ _ c.feed_lost.ensures.takes)) c.feed_lost.ensures.left

pub feed_completed-requires-clause-one_size : goal.feed_completed-requires-clause-one_size
feed_completed-requires-clause-one_size g c = c.in_turn.ensures.one_size _ _ _ c.feed_lost.ensures.takes c.requires.one_size

pub returns-clause-fed : goal.returns-clause-fed
returns-clause-fed g c =
    feeds-byte g.S.Sink.Takes g.S.Sink.OneSize c.in_turn.ensures _ _ _ c.args.decoder.now c.args.b _ _ _ c.soundness.ensures
    c.push-lost.ensures.characters c.push-lost.ensures.pending c.feed_lost.ensures.takes c.feed_completed.ensures.takes
