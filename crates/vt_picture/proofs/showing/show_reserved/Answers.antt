use Rattle.std.proofs.Common.{◌≡◌, append-nil, arith, sym, ap}
use Rattle.vt_screen.specs.declared.size.Size.{Size}
use Rattle.vt_picture.specs.Show.{shown_lines, shown_line}
use Rattle.vt_picture.specs.Limits.{shown_line_limit}
use Rattle.vt_picture.proofs.Ranges.{row_written}
use Rattle.vt_picture.proofs.RowLimits.{one-more, one_row, few-cells}
use Rattle.vt_picture.proofs.showing.show_reserved.Goals as goal

pub loop-row-init : goal.loop-row-init
unfolding shown_lines
loop-row-init c =
    record { items = sym (append-nil c.args.out.now.items); bounded = omega arith; capacity = omega arith }

pub push_shown_line-requires-clause-len : goal.push_shown_line-requires-clause-len
push_shown_line-requires-clause-len c =
    let few = few-cells c.args.t.now.display.grid.size _ c.size-row-end.ensures.sound c.row.ensures.width in
    omega (arith, few.0, few.1)

pub push_shown_line-requires-clause-room : goal.push_shown_line-requires-clause-room
push_shown_line-requires-clause-room c =
    let size : Size = c.args.t.now.display.grid.size in
    let end : c.size-row-end.result.rows ≡ size.rows = ap (λ (z : Size). z.rows) c.size-row-end.ensures.size in
    let few = few-cells size _ c.size-row-end.ensures.sound c.row.ensures.width in
    let fits = one-more (shown_line_limit c.args.t.now.display.grid.size) c.loop-row.row size.rows (omega arith) (omega (arith, end)) in
    omega (arith, c.loop-row.invariant.bounded, c.loop-row.invariant.capacity, c.requires, few.0, fits)

pub loop-row-preserved : goal.loop-row-preserved
unfolding shown_lines
loop-row-preserved c = record {
  items = row_written (λ r cells. shown_line cells) c.args.t.now.display.grid c.loop-row.row c.args.out.now.items
      _ _ _ (omega arith) c.row.ensures.cells c.loop-row.invariant.items c.push_shown_line.ensures.items;
  bounded = one_row (c.loop-row.row) (shown_line_limit c.args.t.now.display.grid.size) _ _ _ (omega arith) c.loop-row.invariant.bounded
      (omega (arith, c.push_shown_line.ensures.bounded, (few-cells c.args.t.now.display.grid.size _ c.size-row-end.ensures.sound c.row.ensures.width).0));
  capacity = omega (arith, c.loop-row.invariant.capacity, c.push_shown_line.ensures.capacity);
}
