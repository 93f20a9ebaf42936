use Rattle.std.proofs.Common.{append_assoc, append-nil}
use Rattle.vt_xterm_paint.proofs.paint.push_sides_to.Goals as goal

pub returns-clause-items : goal.returns-clause-items
returns-clause-items c =
    rw (
      c.push_bytes-3.ensures.items,
      c.push_number-2.ensures.items,
      c.push_bytes-2.ensures.items,
      c.push_number.ensures.items,
      c.push_bytes.ensures.items,
    )
    (simp (append_assoc, append-nil))
