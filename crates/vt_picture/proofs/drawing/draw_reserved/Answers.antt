use Rattle.std.proofs.Common.{append_assoc}
use Rattle.vt_picture.specs.Draw.{draw_at, changes_at}
use Rattle.vt_picture.proofs.drawing.draw_reserved.Goals as goal

pub returns-clause-items : goal.returns-clause-items
unfolding draw_at changes_at
returns-clause-items c =
    rw (
      c.push_end.ensures.items,
      c.push_rows-pen.ensures.items,
      c.push_rows-pen.ensures.pen,
      c.push_erase.ensures.items,
      c.modes.ensures,
      c.plain.ensures,
    )
    (simp append_assoc)
