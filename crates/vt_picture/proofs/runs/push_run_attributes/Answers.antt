use Rattle.std.proofs.Common.{append_assoc}
use Rattle.vt_picture.proofs.runs.push_run_attributes.Goals as goal

pub returns-clause-items : goal.returns-clause-items
returns-clause-items c =
    rw (
      c.push_when-4.ensures.items,
      c.fill.ensures.fill,
      c.push_bytes-2.ensures.items,
      c.push_when-3.ensures.items,
      c.push_when-2.ensures.items,
      c.push_when.ensures.items,
      c.push_bytes.ensures.items,
    )
    (simp append_assoc)
