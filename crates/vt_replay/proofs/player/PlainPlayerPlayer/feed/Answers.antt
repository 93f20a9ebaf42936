use Rattle.std.proofs.Common.{ap}
use Rattle.vt_term.specs.Play.{Played}
use Rattle.vt_replay.proofs.Players.{plain_on, plain_stays}
use Rattle.vt_replay.proofs.player.PlainPlayerPlayer.feed.Goals as goal

pub returns-clause-on : goal.returns-clause-on
returns-clause-on c = λ more.
    plain_on _ _ c.args.chunk.now more c.sized_cuts.ensures.two c.feed_reserved.ensures.state

pub returns-clause-after : goal.returns-clause-after
returns-clause-after c = λ more.
    ap (λ (p : Played). p.state) (plain_on _ _ c.args.chunk.now more c.sized_cuts.ensures.two c.feed_reserved.ensures.state)

pub returns-clause-screen : goal.returns-clause-screen
returns-clause-screen c =
    plain_stays _ _ c.args.chunk.now c.sized_soundness.ensures.play c.soundness.ensures c.feed_reserved.ensures.state
