use Rattle.std.proofs.Common.{arith}
use Rattle.vt_paint.proofs.RowLimits.{three_digits}
use Rattle.vt_picture.proofs.drawing.push_end.Goals as goal

pub push_go-requires-clause-room : goal.push_go-requires-clause-room
push_go-requires-clause-room c = omega (arith, c.requires.room, three_digits c.cursor-cursor.result.row)

pub push_change-requires : goal.push_change-requires
push_change-requires c =
    let few = three_digits c.cursor-cursor.result.row in
    omega (arith, c.requires.room, few, c.push_go.ensures.bounded, c.push_go.ensures.capacity)

pub push-requires : goal.push-requires
push-requires c =
    let few = three_digits c.cursor-cursor.result.row in
    omega (
      arith,
      c.requires.room,
      few,
      c.push_go.ensures.bounded,
      c.push_go.ensures.capacity,
      c.push_change.ensures.bounded,
      c.push_change.ensures.capacity,
      c.mode.ensures.short,
    )

pub returns-then-was_shown-is_shown-clause-bounded : goal.returns-then-was_shown-is_shown-clause-bounded
returns-then-was_shown-is_shown-clause-bounded c =
    let few = three_digits c.cursor-cursor.result.row in
    omega (
      arith,
      few,
      c.push_go.ensures.bounded,
      c.push_change.ensures.bounded,
      c.mode.ensures.short,
      c.push.ensures.bounded,
    )

pub returns-else-was_shown-is_shown-clause-bounded : goal.returns-else-was_shown-is_shown-clause-bounded
returns-else-was_shown-is_shown-clause-bounded c =
    let few = three_digits c.cursor-cursor.result.row in
    omega (arith, few, c.push_go.ensures.bounded, c.push_change.ensures.bounded)
