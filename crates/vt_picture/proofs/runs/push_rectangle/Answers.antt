use Rattle.std.proofs.Common.{append_assoc}
use Rattle.vt_picture.specs.Picture.{rectangle}
use Rattle.vt_picture.proofs.runs.push_rectangle.Goals as goal

pub returns-clause-items : goal.returns-clause-items
unfolding rectangle
returns-clause-items c =
    rw (
      c.push_bytes-6.ensures.items,
      c.push_number-3.ensures.items,
      c.width_of.ensures,
      c.push_bytes-5.ensures.items,
      c.push_number-2.ensures.items,
      c.top_of.ensures,
      c.push_bytes-4.ensures.items,
      c.push_number.ensures.items,
      c.left_of.ensures,
      c.push_bytes-3.ensures.items,
      c.push_bytes-2.ensures.items,
      c.push_bytes.ensures.items,
    )
    (simp append_assoc)
