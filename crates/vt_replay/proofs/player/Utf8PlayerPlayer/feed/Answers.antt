use Rattle.vt_replay.proofs.Players.{utf8_on, utf8_kept, utf8_stays}
use Rattle.vt_replay.proofs.player.Utf8PlayerPlayer.feed.Goals as goal

pub returns-clause-on : goal.returns-clause-on
returns-clause-on c = λ more.
    let fed = c.feed_utf8_reserved.ensures in
    utf8_on _ _ _ _ c.args.chunk.now more c.sized_cuts.ensures.two c.soundness.ensures fed.state fed.pending

pub returns-clause-after : goal.returns-clause-after
returns-clause-after c = λ more.
    let fed = c.feed_utf8_reserved.ensures in
    utf8_kept _ _ _ _ c.args.chunk.now more c.sized_cuts.ensures.two c.sized_cuts.ensures.pending c.soundness.ensures fed.state fed.pending

pub returns-clause-screen : goal.returns-clause-screen
returns-clause-screen c =
    utf8_stays _ _ _ c.args.chunk.now c.sized_soundness.ensures c.soundness.ensures c.feed_utf8_reserved.ensures.state
