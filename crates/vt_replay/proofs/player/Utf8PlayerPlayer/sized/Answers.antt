use Rattle.std.proofs.Common.{ap}
use Rattle.vt_term.specs.Play.{Played}
use Rattle.vt_replay.proofs.Players.{utf8_record}
use Rattle.vt_replay.proofs.player.Utf8PlayerPlayer.sized.Goals as goal

pub returns-clause-state : goal.returns-clause-state
returns-clause-state c = c.sized_cuts.ensures.none _ _ _ c.soundness.ensures

pub returns-clause-kept : goal.returns-clause-kept
returns-clause-kept c =
    ap (λ (p : Played). utf8_record p.state c.args.self.now.decoder) (c.sized_cuts.ensures.none _ _ _ c.soundness.ensures)
