use Rattle.std.proofs.Common.{◌≡◌, ◌+◌, ◌*◌, append-nil, arith, sym, ap}
use Rattle.vt_screen.specs.declared.size.Size.{Size}
use Rattle.vt_picture.specs.Picture.{alternative, alternative_line}
use Rattle.vt_picture.proofs.Ranges.{row_written}
use Rattle.vt_picture.proofs.RowLimits.{one-more, one_row, few-cells}
use Rattle.vt_picture.proofs.document.push_alternative.Goals as goal

pub loop-row-init : goal.loop-row-init
unfolding alternative
loop-row-init c =
    record { items = sym (append-nil c.args.out.now.items); bounded = omega arith; capacity = omega arith }

pub push_alternative_line-requires : goal.push_alternative_line-requires
push_alternative_line-requires c =
    let size : Size = c.args.t.now.display.grid.size in
    let end : c.size-row-end.result.rows ≡ size.rows = ap (λ (z : Size). z.rows) c.size-row-end.ensures.size in
    let few = few-cells size _ c.size-row-end.ensures.sound c.row.ensures.width in
    let fits = one-more (5 * c.args.t.now.display.grid.size.wide + 1) c.loop-row.row size.rows (omega arith) (omega (arith, end)) in
    omega (arith, c.loop-row.invariant.bounded, c.loop-row.invariant.capacity, c.requires, few.0, fits)

pub loop-row-preserved : goal.loop-row-preserved
unfolding alternative
loop-row-preserved c = record {
  items = row_written (λ r cells. alternative_line cells) c.args.t.now.display.grid c.loop-row.row c.args.out.now.items
      _ _ _ (omega arith) c.row.ensures.cells c.loop-row.invariant.items c.push_alternative_line.ensures.items;
  bounded = one_row (c.loop-row.row) (5 * c.args.t.now.display.grid.size.wide + 1) _ _ _ (omega arith) c.loop-row.invariant.bounded
      (omega (arith, c.push_alternative_line.ensures.bounded, (few-cells c.args.t.now.display.grid.size _ c.size-row-end.ensures.sound c.row.ensures.width).0));
  capacity = omega (arith, c.loop-row.invariant.capacity, c.push_alternative_line.ensures.capacity);
}
