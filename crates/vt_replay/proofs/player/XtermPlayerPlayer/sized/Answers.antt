use Rattle.std.proofs.Common.{ap}
use Rattle.vt_xterm.specs.Play.{WholePlayed}
use Rattle.vt_replay.specs.Playing.{on_terminal}
use Rattle.vt_replay.proofs.Players.{xterm_record}
use Rattle.vt_replay.proofs.player.XtermPlayerPlayer.sized.Goals as goal

pub returns-clause-state : goal.returns-clause-state
returns-clause-state c = ap (λ (p : WholePlayed). on_terminal p) (c.cuts.ensures.none _ _)

pub returns-clause-kept : goal.returns-clause-kept
returns-clause-kept c = ap (λ (p : WholePlayed). xterm_record p.whole c.args.self.now.front.pending) (c.cuts.ensures.none _ _)
