use Rattle.std.proofs.Common.{◌≡◌, ◌+◌, ◌-◌, ◌++◌, ◌||◌, not, length, arith, ap, ◌∙◌}
use Rattle.std.specs.List.{list_all}
use Rattle.vt_paint.specs.Same.{is_blank}
use Rattle.vt_paint.specs.Controls.{spelling_sets_events}
use Rattle.vt_paint.specs.Pieces.{pieces, is_blank_grid}
use Rattle.vt_paint.specs.Private.Parts.{rows_from}
use Rattle.vt_paint.specs.Items.{cells_item}
use Rattle.vt_paint.proofs.Pushing.{are_blank, shown-more, rows_shown, shown-unless}
use Rattle.vt_screen.specs.declared.size.Size.{Size}
use Rattle.vt_paint.specs.Limits.{row_limit}
use Rattle.vt_paint.proofs.RowLimits.{few-cells, row-fits, one-more, one_row}
use Rattle.vt_paint.proofs.cells.push_cells.Goals as goal

pub push_shown_row-shown-requires-clause-room : goal.push_shown_row-shown-requires-clause-room
push_shown_row-shown-requires-clause-room c =
    let size : Size = c.args.t.now.display.grid.size in
    let r = c.loop-row.row in
    let end : c.size-row-end.result.rows ≡ size.rows = ap (λ (z : Size). z.rows) c.size-row-end.ensures.size in
    let few = few-cells size _ c.size-row-end.ensures.sound c.row.ensures.width in
    let cells = row-fits size r (length c.row.result.now) (omega (arith, end)) few.0 in
    let fits = one-more (row_limit size) r size.rows (omega arith) (omega (arith, end)) in
    omega (arith, c.loop-row.invariant.bounded, c.loop-row.invariant.capacity, c.requires, cells, fits)

pub loop-row-preserved : goal.loop-row-preserved
loop-row-preserved c =
    let g = c.args.t.now.display.grid in
    let w = c.args.wrap in
    let end : c.size-row-end.result.rows ≡ g.size.rows = ap (λ (z : Size). z.rows) c.size-row-end.ensures.size in
    let r = c.loop-row.row in
    let before = c.loop-row.shown in
    let after = c.push_shown_row-shown.result in
    let step = c.push_shown_row-shown.ensures in
    let after_is = step.shown ∙ ap (λ xs. before || not (list_all is_blank xs)) c.row.ensures.cells in
    record {
      shown = shown-more g w before after (r - 1) r (r + 1 - 1) (omega arith) (omega arith) c.loop-row.invariant.shown
          after_is;
      items = rows_shown g w before after (r - 1) r (r + 1 - 1) c.args.out.now.items c.loop-row.out.items
          c.push_shown_row-shown.new.out.items spelling_sets_events (omega arith) (omega arith)
          c.loop-row.invariant.shown after_is c.loop-row.invariant.items (step.items g c.row.ensures.cells);
      bounded = one_row r (row_limit g.size) _ _ _ (omega arith) c.loop-row.invariant.bounded
          (omega (
            arith,
            step.bounded,
            row-fits g.size r (length c.row.result.now) (omega (arith, end))
                (few-cells g.size _ c.size-row-end.ensures.sound c.row.ensures.width).0,
          ));
      capacity = omega (arith, c.loop-row.invariant.capacity, step.capacity);
    }

pub returns-clause-items : goal.returns-clause-items
unfolding cells_item is_blank_grid pieces
returns-clause-items c =
    let g = c.args.t.now.display.grid in
    let w = c.args.wrap in
    let end : c.size-row-end.result.rows ≡ g.size.rows = ap (λ (z : Size). z.rows) c.size-row-end.ensures.size in
    let all : c.loop-row.row - 1 ≡ g.size.rows = omega (arith, end) in
    let shown : c.loop-row.shown ≡ (w || not (are_blank g g.size.rows)) = rw all at c.loop-row.invariant.shown in
    rw (← shown-unless w (are_blank g g.size.rows) (spelling_sets_events ++ rows_from g 1 g.size.rows), ← shown)
    (rw all at c.loop-row.invariant.items)
