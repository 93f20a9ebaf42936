use Rattle.std.proofs.Common.{◌≡◌, ◌+◌, ◌-◌, ◌≤◌, [], length, refl, ap, arith, rules}
use Rattle.std.proofs.lemmas.List.{get_or_default}
use Rattle.vt_screen.specs.declared.size.Size.{Size}
use Rattle.vt_paint.specs.Limits.{row_limit}
use Rattle.vt_paint.specs.Private.ChangeEvents.{changed_row, changed_cells}
use Rattle.vt_paint.proofs.Pushing.{appended-more}
use Rattle.vt_paint.proofs.RowLimits.{few-cells, row-fits, one-more, one_row}
use Rattle.vt_paint.proofs.changes.push_changed_cells.Goals as goal

pub push_changed_row-requires : goal.push_changed_row-requires
push_changed_row-requires g c =
    let size : Size = c.args.t.now.display.grid.size in
    let r = c.loop-row.row in
    let end : c.size-row-end.result.rows ≡ size.rows = ap (λ (z : Size). z.rows) c.size-row-end.ensures.size in
    let few = few-cells size _ c.size-row-end.ensures.sound c.row.ensures.width in
    let cells = row-fits size r (length c.row.result.now) (omega (arith, end)) few.0 in
    let fits = one-more (row_limit size) r size.rows (omega arith) (omega (arith, end)) in
    let row : (1 ≤ r) × (r ≤ 255) = (omega arith, omega (arith, end, c.size-row-end.ensures.sound.rows.1)) in (
      search rules,
      (
        row,
        (
          omega (arith, few.0, few.1),
          (
            omega (arith, few.0, c.requires.columns),
            omega (arith, c.loop-row.invariant.bounded, c.loop-row.invariant.capacity, c.requires.room, cells, fits),
          ),
        ),
      ),
    )

pub loop-row-preserved : goal.loop-row-preserved
loop-row-preserved g c =
    let x = c.args.t.now.display.grid in
    let marks = c.args.marks.now in
    let r = c.loop-row.row in
    let old = c.args.out.now.items in
    let step = c.push_changed_row.ensures in
    let end : c.size-row-end.result.rows ≡ x.size.rows = ap (λ (z : Size). z.rows) c.size-row-end.ensures.size in
    record {
      items =
          appended-more (λ r. changed_row marks x r) 1 (r - 1) r (r + 1 - 1) (changed_row marks x r) old c.loop-row.out.items
          c.push_changed_row.new.out.items (omega arith) (omega arith)
          c.loop-row.invariant.items (step.items x marks c.row.ensures.cells
          (get_or_default marks (r - 1) _ [] (omega (arith, end, c.requires.rows, c.told-marks)))) refl;
      bounded = one_row r (row_limit x.size) _ _ _ (omega arith) c.loop-row.invariant.bounded
          (omega (
            arith,
            step.bounded,
            row-fits x.size r (length c.row.result.now) (omega (arith, end))
                (few-cells x.size _ c.size-row-end.ensures.sound c.row.ensures.width).0,
          ));
      capacity = omega (arith, c.loop-row.invariant.capacity, step.capacity);
    }

pub returns-clause-items : goal.returns-clause-items
unfolding changed_cells
returns-clause-items g c =
    let rows = c.args.t.now.display.grid.size.rows in
    let end : c.size-row-end.result.rows ≡ rows = ap (λ (z : Size). z.rows) c.size-row-end.ensures.size in
    let all : c.loop-row.row - 1 ≡ rows = omega (arith, end) in
    rw all at c.loop-row.invariant.items

pub returns-clause-bounded : goal.returns-clause-bounded
returns-clause-bounded g c =
    let rows = c.args.t.now.display.grid.size.rows in
    let end : c.size-row-end.result.rows ≡ rows = ap (λ (z : Size). z.rows) c.size-row-end.ensures.size in
    let all : c.loop-row.row - 1 ≡ rows = omega (arith, end) in
    rw all at c.loop-row.invariant.bounded
