use Rattle.std.proofs.Common.{ap, ◌∙◌}
use Rattle.vt_screen.specs.declared.size.Size.{Size}
use Rattle.vt_term.specs.declared.state.Cursor.{Cursor}
use Rattle.vt_paint.specs.Items.{margins_item, placed_items, last_items}
use Rattle.vt_paint.proofs.Pushing.{then_events, events_as}
use Rattle.vt_paint.proofs.paint.push_last.Goals as goal

pub returns-clause-items : goal.returns-clause-items
unfolding last_items
returns-clause-items c =
    let s = c.args.t.now.display in
    let known = c.args.known in
    (then_events (events_as (ap (λ (z : Size). margins_item z.rows c.margins.result) c.size.ensures.size
    ∙ ap (λ m. margins_item s.grid.size.rows m) c.margins.ensures) c.push_margins.ensures.items)
    (events_as (ap (λ (x : Cursor). placed_items known s x.col x.wrap) c.cursor-cursor.ensures.cursor)
    c.push_placed.ensures.items)).is
