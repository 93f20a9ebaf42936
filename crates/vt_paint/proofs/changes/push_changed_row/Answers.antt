use Rattle.std.proofs.Common.{◌≡◌, ◌+◌, ◌-◌, List, [], Bool, false, get_or, length, ap, ◌∙◌, arith}
use Rattle.vt_screen.specs.declared.cell.Cell.{Cell}
use Rattle.vt_paint.specs.Private.ChangeEvents.{change_of, change}
use Rattle.vt_paint.proofs.Pushing.{appended-more, cell-is}
use Rattle.vt_paint.proofs.RowLimits.{some-cells}
use Rattle.vt_paint.proofs.changes.push_changed_row.Goals as goal

pub push_change-requires-clause-room : goal.push_change-requires-clause-room
push_change-requires-clause-room g c =
    let fits = some-cells c.args.row (c.loop-i.i + 1) (length c.args.cells.now) (omega arith) in
    omega (arith, c.loop-i.invariant.bounded, c.loop-i.invariant.capacity, c.requires.room, fits)

pub loop-i-preserved : goal.loop-i-preserved
loop-i-preserved g c =
    let r = c.args.row in
    let i = c.loop-i.i in
    let marks = c.args.marks.now in
    let cell = c.index-cells-i.result in
    let back : i ≡ i + 1 - 1 = omega arith in
    record {
      items = λ x all e m.
          appended-more (λ c. change all x r c) 1 i (i + 1) (i + 1) (change_of r (i + 1) (get_or marks i false) cell)
          c.args.out.now.items c.loop-i.out.items c.push_change.new.out.items (omega arith) (omega arith)
          (c.loop-i.invariant.items x all e m) c.push_change.ensures.items
          (ap (λ n. change_of r (i + 1) (get_or marks n false) cell) back
          ∙ ap (λ (row : List Bool). change_of r (i + 1) (get_or row (i + 1 - 1) false) cell) m
          ∙ ap (λ (y : Cell). change_of r (i + 1) (get_or (get_or all (r - 1) []) (i + 1 - 1) false) y)
          (cell-is x r i c.args.cells.now cell e c.loop-i-test.true
          c.index-cells-i.is));
      bounded = omega (arith, c.loop-i.invariant.bounded, c.push_change.ensures.bounded);
      capacity = omega (arith, c.loop-i.invariant.capacity, c.push_change.ensures.capacity);
    }
