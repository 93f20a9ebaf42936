use Rattle.std.proofs.Common.{append_assoc}
use Rattle.vt_paint.proofs.Entries.{header_is}
use Rattle.vt_paint.proofs.line.put_header.Goals as goal

pub returns-clause-items : goal.returns-clause-items
returns-clause-items c = λ brush is.
    rw (
      header_is c.args.row c.args.col brush,
      c.put_front.ensures.items,
      c.put_front-at-2.ensures.items,
      c.put_front-at.ensures.items,
      c.row_part-len.ensures.value,
      c.column_part-len.ensures.value,
      c.brush_part-len.ensures.value brush is,
    ) (simp append_assoc)
