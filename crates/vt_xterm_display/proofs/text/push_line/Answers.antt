use Rattle.std.proofs.Common.{◌∙◌, ◌-◌, ℕ, List, length, drop, length-drop, take_all, ap, arith}
use Rattle.vt_xterm_display.proofs.Texts.{cells-more, line-ended}
use Rattle.vt_xterm_display.proofs.text.push_line.Goals as goal

pub loop-cell-preserved : goal.loop-cell-preserved
loop-cell-preserved c = record {
  items = cells-more c.args.cells.now c.loop-cell.cell-index c.cell-item.result c.args.out.now.items c.loop-cell.out.items
      c.push_cell.new.out.items c.loop-cell-test.true c.cell-item.is c.loop-cell.invariant.items c.push_cell.ensures.items;
  bounded = omega (arith, c.push_cell.ensures.bounded, c.loop-cell.invariant.bounded);
  capacity = omega (arith, c.push_cell.ensures.capacity, c.loop-cell.invariant.capacity);
}

pub returns-clause-items : goal.returns-clause-items
returns-clause-items c =
    rw c.unwrap.ensures at c.push.ensures.items
    ∙ line-ended c.args.cells.now c.len-start.result c.end_of_text.result c.loop-cell.cell-index c.args.out.now.items c.loop-cell.out.items
    _ c.truncate.new.self.items (omega (arith, c.len-start.ensures))
    (omega (arith, c.loop-cell-test.false, c.loop-cell.auto.cell-index-end)) c.loop-cell.invariant.items
    (take_all (length c.deref.result.now - c.len-start.result) (drop c.len-start.result c.deref.result.now)
    (omega (arith, length-drop c.len-start.result c.deref.result.now))
    ∙ ap (λ (t : List ℕ). drop c.len-start.result t) c.deref.ensures.value) c.end_of_text.ensures.text c.truncate.ensures.items
