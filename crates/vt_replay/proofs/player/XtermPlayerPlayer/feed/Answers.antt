use Rattle.vt_replay.proofs.Players.{xterm_on, xterm_kept}
use Rattle.vt_replay.proofs.player.XtermPlayerPlayer.feed.Goals as goal

pub returns-clause-on : goal.returns-clause-on
returns-clause-on c = λ more.
    let fed = c.feed_xterm_reserved.ensures in
    xterm_on _ _ _ _ c.args.chunk.now more c.cuts.ensures.two fed.state fed.pages fed.pending

pub returns-clause-after : goal.returns-clause-after
returns-clause-after c = λ more.
    let fed = c.feed_xterm_reserved.ensures in
    xterm_kept _ _ _ _ c.args.chunk.now more c.cuts.ensures.two c.sized_cuts.ensures.pending fed.state fed.pages fed.pending
