use Rattle.std.proofs.Common.{arith}
use Rattle.vt_paint.proofs.RowLimits.{vt220_limited}
use Rattle.vt_paint.proofs.views.repaint_reserved.Goals as goal

pub repaint_reserved-requires-clause-room : goal.repaint_reserved-requires-clause-room
repaint_reserved-requires-clause-room c = omega (arith, c.requires.room, vt220_limited _ c.t.invariant)

pub returns-clause-bounded : goal.returns-clause-bounded
returns-clause-bounded c = omega (arith, c.repaint_reserved.ensures.bounded, vt220_limited _ c.t.invariant)
