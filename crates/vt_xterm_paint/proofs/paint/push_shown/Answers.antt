use Rattle.std.proofs.Common.{append_assoc}
use Rattle.std.proofs.lemmas.Grind.{flat_map-append}
use Rattle.vt_xterm_paint.specs.Repaint.{shown_events}
use Rattle.vt_xterm_paint.proofs.paint.push_shown.Goals as goal

pub returns-clause-items : goal.returns-clause-items
unfolding shown_events
returns-clause-items c =
    rw (
      c.repaint_placed_reserved.ensures.items,
      c.push_sides.ensures.items,
      c.repaint_first_reserved.ensures.items,
      c.is_wrapping-wrap.ensures,
      c.column_named-col.ensures.column,
      c.sent_sides-sides.ensures.sides,
    )
    (simp (flat_map-append, append_assoc))
