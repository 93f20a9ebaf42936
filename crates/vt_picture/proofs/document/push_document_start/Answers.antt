use Rattle.std.proofs.Common.{append_assoc}
use Rattle.vt_picture.specs.Picture.{document_start}
use Rattle.vt_picture.proofs.document.push_document_start.Goals as goal

pub returns-clause-items : goal.returns-clause-items
unfolding document_start
returns-clause-items c =
    rw (
      c.push_bytes-5.ensures.items,
      c.push_number-4.ensures.items,
      c.push_bytes-4.ensures.items,
      c.push_number-3.ensures.items,
      c.push_bytes-3.ensures.items,
      c.push_number-2.ensures.items,
      c.push_bytes-2.ensures.items,
      c.push_number.ensures.items,
      c.height_of-height.ensures,
      c.width_of-width.ensures,
      c.push_bytes.ensures.items,
    )
    (simp append_assoc)
