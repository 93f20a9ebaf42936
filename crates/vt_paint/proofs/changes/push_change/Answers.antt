use Rattle.std.proofs.Common.{◌∷◌, ◌++◌, [], sym, ap, ◌∙◌}
use Rattle.vt_syntax.specs.Spelling.{spell_events}
use Rattle.vt_screen.specs.Cells.{brush_of}
use Rattle.vt_screen.specs.Same.{when}
use Rattle.vt_paint.specs.Controls.{cursor_position}
use Rattle.vt_paint.specs.Pieces.{glyph_events}
use Rattle.vt_paint.specs.Private.ChangeEvents.{short_brush_events, change_of}
use Rattle.vt_paint.proofs.Pushing.{then_events, events, events_as}
use Rattle.vt_paint.proofs.changes.push_change.Goals as goal

pub returns-then-marked-clause-items : goal.returns-then-marked-clause-items
unfolding change_of glyph_events
returns-then-marked-clause-items c =
    let cell = c.args.cell.now in
    let all = cursor_position c.args.row c.args.col ∷ (short_brush_events (brush_of cell) ++ glyph_events cell) in
    (then_events (events (cursor_position c.args.row c.args.col ∷ []) c.push_position.ensures.items)
    (then_events (events_as (ap (λ b. short_brush_events b) c.brush.ensures) c.push_short_brush.ensures.items)
    (events (glyph_events cell) c.push_glyph.ensures.items))).is
    ∙ ap (λ b. c.args.out.now.items ++ spell_events (when b all)) (sym c.if-marked.true)
