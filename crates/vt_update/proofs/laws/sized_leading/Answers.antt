use Rattle.vt_paint.specs.Repaint.{paint}
use Rattle.vt_update.proofs.Turns.{leads_played, nothing, in_turn, joins_late}
use Rattle.vt_update.proofs.laws.sized_leading.Goals as goal

pub returns-clause-played : goal.returns-clause-played
returns-clause-played c size =
    leads_played {size = size} (c.sized_cuts.ensures.none size) c.sized_cuts.ensures.two (c.sized_cuts.ensures.all size)
    (c.sized_soundness.ensures.play size)

pub returns-clause-nothing : goal.returns-clause-nothing
returns-clause-nothing c size =
    nothing {size = size} (c.sized_cuts.ensures.none size) c.sized_cuts.ensures.two (c.sized_cuts.ensures.all size)
    (c.sized_soundness.ensures.play size)

pub returns-clause-in_turn : goal.returns-clause-in_turn
returns-clause-in_turn c size =
    in_turn {size = size} (c.sized_cuts.ensures.none size) c.sized_cuts.ensures.two (c.sized_cuts.ensures.all size)
    (c.sized_soundness.ensures.play size)

pub returns-clause-joins_late : goal.returns-clause-joins_late
returns-clause-joins_late c size client s t sent i j between leads =
    joins_late {size = size} (c.sized_cuts.ensures.none size) c.sized_cuts.ensures.two (c.sized_cuts.ensures.all size)
    (c.sized_soundness.ensures.play size) client s t (paint s) sent i (c.sized_rebuilds.ensures size s j between client i) leads
