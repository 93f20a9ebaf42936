use Rattle.std.proofs.Common.{append_assoc}
use Rattle.std.proofs.lemmas.Grind.{flat_map-append}
use Rattle.vt_paint.specs.Repaint.{made_events}
use Rattle.vt_paint.proofs.paint.repaint_items_reserved.Goals as goal

pub returns-clause-items : goal.returns-clause-items
unfolding made_events
returns-clause-items c =
    rw (
      c.repaint_placed_reserved.ensures.items,
      c.repaint_first_reserved.ensures.items,
      c.cursor-cursor.ensures.cursor,
    )
    (simp (flat_map-append, append_assoc))
