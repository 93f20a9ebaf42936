use Rattle.vt_xterm_repaint.proofs.LookBytes.{attributes-pushed}
use Rattle.vt_xterm_repaint.proofs.looks.push_attributes.Goals as goal

pub returns-clause-items : goal.returns-clause-items
returns-clause-items c =
    rw (
      c.push_bytes-2.ensures.items,
      c.push_when-9.ensures.items,
      c.push_when-8.ensures.items,
      c.push_when-7.ensures.items,
      c.push_when-6.ensures.items,
      c.push_when-5.ensures.items,
      c.push_when-4.ensures.items,
      c.push_when-3.ensures.items,
      c.push_when-2.ensures.items,
      c.push_when.ensures.items,
      c.push_bytes.ensures.items,
    )
    (attributes-pushed c.args.a c.args.out.now.items)
