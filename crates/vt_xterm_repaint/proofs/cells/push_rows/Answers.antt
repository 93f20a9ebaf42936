use Rattle.std.proofs.Common.{◌+◌, ◌-◌, refl, arith}
use Rattle.vt_paint.proofs.RowLimits.{one_row}
use Rattle.vt_xterm_repaint.specs.Cells.{row_actions}
use Rattle.vt_xterm_repaint.specs.Limits.{row_limit}
use Rattle.vt_xterm_repaint.proofs.Written.{actions-more}
use Rattle.vt_xterm_repaint.proofs.cells.push_rows.Goals as goal

pub loop-row-preserved : goal.loop-row-preserved
loop-row-preserved c =
    let g = c.args.screen.now in
    let r = c.loop-row.row in
    record {
      items = actions-more (λ n. row_actions g n) 1 (r - 1) r (r + 1 - 1) (row_actions g r) c.args.out.now.items c.loop-row.out.items
          c.push_row.new.out.items (omega arith) (omega arith) c.loop-row.invariant.items c.push_row.ensures.items refl;
      bounded = one_row r (row_limit g.size) _ _ _ (omega arith) c.loop-row.invariant.bounded (omega (arith, c.push_row.ensures.bounded));
      capacity = omega (arith, c.loop-row.invariant.capacity, c.push_row.ensures.capacity);
    }
