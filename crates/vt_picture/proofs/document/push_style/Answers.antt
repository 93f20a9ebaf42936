use Rattle.std.proofs.Common.{append_assoc}
use Rattle.vt_picture.specs.Picture.{style}
use Rattle.vt_picture.proofs.document.push_style.Goals as goal

pub returns-clause-items : goal.returns-clause-items
unfolding style
returns-clause-items c =
    rw (
      c.push_bytes-5.ensures.items,
      c.push_bytes-4.ensures.items,
      c.push_bytes-3.ensures.items,
      c.push_bytes-2.ensures.items,
      c.push_bytes.ensures.items,
    )
    (simp append_assoc)
