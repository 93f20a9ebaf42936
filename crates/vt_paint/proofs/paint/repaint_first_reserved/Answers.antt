use Rattle.std.proofs.Common.{append_assoc}
use Rattle.std.proofs.lemmas.Grind.{flat_map-append}
use Rattle.vt_paint.specs.Items.{first_items}
use Rattle.vt_paint.proofs.paint.repaint_first_reserved.Goals as goal

pub returns-clause-items : goal.returns-clause-items
unfolding first_items
returns-clause-items c =
    rw (
      c.push_margins.ensures.items,
      c.margins.ensures,
      c.push_cells.ensures.items,
      c.push_saved.ensures.items,
      c.saved.ensures,
      c.push_stops.ensures.items,
      c.stops.ensures,
      c.width.ensures.width,
      c.size-2.ensures.size,
      c.size.ensures.size,
    )
    (simp (flat_map-append, append_assoc))
