use Rattle.std.proofs.Common.{append_assoc}
use Rattle.vt_paint.specs.Repaint.{paint}
use Rattle.vt_paint.proofs.paint.repaint_reserved.Goals as goal

pub returns-clause-items : goal.returns-clause-items
unfolding paint
returns-clause-items c =
    rw (c.repaint_items_reserved.ensures.items, c.push.ensures.items, c.reset.ensures.value) (simp append_assoc)

pub returns-clause-rebuilds : goal.returns-clause-rebuilds
returns-clause-rebuilds c =
    c.sized_rebuilds.ensures c.args.t.now.display.grid.size c.args.t.now c.soundness.ensures c.requires.between
