use Rattle.vt_xterm_repaint.proofs.LookBytes.{indexed-pushed, mixed-pushed}
use Rattle.vt_xterm_repaint.proofs.looks.push_colour.Goals as goal

pub returns-else-index-lt16-clause-items : goal.returns-else-index-lt16-clause-items
returns-else-index-lt16-clause-items c =
    rw c.in-Indexed.is
    (indexed-pushed c.args.eight c.in-Indexed.index _ _ _ _ c.if-index-lt16.false c.push_number-else-index-lt16.ensures.items
    c.push_bytes.ensures.items c.push_number-else-index-lt16-2.ensures.items)

pub returns-in-Rgb-clause-items : goal.returns-in-Rgb-clause-items
returns-in-Rgb-clause-items c =
    rw c.in-Rgb.is
    (mixed-pushed c.args.eight c.in-Rgb.red c.in-Rgb.green c.in-Rgb.blue _ _ _ _ _ _ _ _ c.push_number-in-Rgb.ensures.items
    c.push_bytes-in-Rgb.ensures.items c.push_number-in-Rgb-2.ensures.items c.push_bytes-in-Rgb-2.ensures.items
    c.push_number-in-Rgb-3.ensures.items c.push_bytes-in-Rgb-3.ensures.items c.push_number-in-Rgb-4.ensures.items)
