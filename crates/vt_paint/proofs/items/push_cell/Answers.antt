use Rattle.std.proofs.Common.{append_assoc}
use Rattle.std.proofs.lemmas.Grind.{flat_map-append}
use Rattle.vt_paint.specs.Pieces.{glyph_events}
use Rattle.vt_paint.proofs.items.push_cell.Goals as goal

pub returns-clause-items : goal.returns-clause-items
unfolding glyph_events
returns-clause-items c =
    rw (c.push_glyph.ensures.items, c.push_brush.ensures.items, c.brush.ensures)
    (simp (flat_map-append, append_assoc))
