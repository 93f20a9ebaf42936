use Rattle.std.proofs.Common.{ap}
use Rattle.vt_term.specs.Play.{Played}
use Rattle.vt_replay.proofs.player.PlainPlayerPlayer.sized.Goals as goal

pub returns-clause-state : goal.returns-clause-state
returns-clause-state c = c.sized_cuts.ensures.none _ _ c.soundness.ensures

pub returns-clause-kept : goal.returns-clause-kept
returns-clause-kept c = ap (λ (p : Played). p.state) (c.sized_cuts.ensures.none _ _ c.soundness.ensures)
