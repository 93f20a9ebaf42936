use Rattle.std.proofs.Common.{arith}
use Rattle.vt_paint.proofs.RowLimits.{position-short}
use Rattle.vt_picture.proofs.drawing.pen.push_go.Goals as goal

pub push-requires : goal.push-requires
push-requires c =
    let short = position-short c.args.row _ c.cursor_to.ensures.short c.cursor_to.ensures.bounded in
    omega (arith, c.requires.room, short)

pub returns-then-not-pen-col-clause-bounded : goal.returns-then-not-pen-col-clause-bounded
returns-then-not-pen-col-clause-bounded c =
    let short = position-short c.args.row _ c.cursor_to.ensures.short c.cursor_to.ensures.bounded in
    omega (arith, c.push.ensures.bounded, short)
