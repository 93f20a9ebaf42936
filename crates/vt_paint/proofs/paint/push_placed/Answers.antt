use Rattle.std.proofs.Common.{refl, ap, ◌∙◌, [], ◌∷◌}
use Rattle.vt_term.specs.Answers.{line_of_cursor}
use Rattle.vt_paint.specs.Controls.{cursor_position, brush_events}
use Rattle.vt_paint.specs.Items.{origin_item, wrap_item, modes_item, shift_item, placed_items}
use Rattle.vt_paint.proofs.Pushing.{then_events, then_both, events_as, sets_events-same}
use Rattle.vt_paint.proofs.paint.push_placed.Goals as goal

pub returns-clause-items : goal.returns-clause-items
unfolding placed_items origin_item
returns-clause-items c =
    let s = c.args.t.now.display in
    let known = c.args.known in
    let sets = c.sets-sets.ensures.sets in
    (then_events (events_as (ap (λ m. origin_item known m.decom) c.modes.ensures) c.push_mode_item.ensures.items)
    (then_both (cursor_position (line_of_cursor s) c.args.col ∷ []) (wrap_item s.grid (record s.cursor { wrap = c.args.wrap }))
    (events_as refl c.push_cursor.ensures.items)
    (then_events (events_as (ap (λ b. brush_events b) c.brush.ensures) c.push_brush.ensures.items)
    (then_events
    (events_as (sets_events-same c.designations.result c.left.result c.right.result s.sets
    (c.designations.ensures.value ∙ ap (λ t. t.g) sets) (c.left.ensures.value ∙ ap (λ t. t.left) sets)
    (c.right.ensures.value ∙ ap (λ t. t.right) sets)) c.push_sets.ensures.items)
    (then_events (events_as (ap (λ m. modes_item known m) c.modes-2.ensures) c.push_modes.ensures.items)
    (events_as (ap (λ p. shift_item p) (c.pending.ensures.value ∙ ap (λ t. t.pending) sets))
    c.push_shift.ensures.items)))))).is
