use Rattle.std.proofs.Common.{append_assoc}
use Rattle.vt_paint.proofs.Entries.{brush_spelled}
use Rattle.vt_paint.proofs.controls.push_brush.Goals as goal

pub returns-clause-items : goal.returns-clause-items
returns-clause-items c =
    rw (
      brush_spelled c.args.brush,
      c.push_bytes-2.ensures.items,
      c.push_bytes.ensures.items,
      c.brush_part-len.ensures.value c.args.brush c.number.ensures,
    ) (simp append_assoc)
