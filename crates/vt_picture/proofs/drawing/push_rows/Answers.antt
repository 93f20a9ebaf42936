use Rattle.std.proofs.Common.{◌≡◌, ◌+◌, ◌-◌, ℕ, suc, length, append-nil, ap, arith, refl, sym}
use Rattle.vt_screen.specs.declared.size.Size.{Size}
use Rattle.vt_screen.specs.Grid.{row_of}
use Rattle.vt_picture.specs.Draw.{rows_bytes, rows_pen}
use Rattle.vt_picture.specs.Private.Looks.{former, latter}
use Rattle.vt_picture.specs.Limits.{places_limit}
use Rattle.vt_picture.proofs.DrawnRows.{more_bytes, more_pen}
use Rattle.vt_picture.proofs.RowLimits.{few-cells, one-more, one_row, places-fit}
use Rattle.vt_picture.proofs.drawing.push_rows.Goals as goal

pub loop-row-init : goal.loop-row-init
unfolding rows_bytes rows_pen
loop-row-init c = record {
  items = sym (append-nil c.args.out.now.items);
  pen = refl;
  bounded = omega arith;
  capacity = omega arith;
}

pub loop-row-preserved : goal.loop-row-preserved
loop-row-preserved c =
    let looks = c.args.looks in
    let olds = λ (r : ℕ). former looks (row_of c.args.shown.now.display.grid r) in
    let news = λ (r : ℕ). latter looks (row_of c.args.t.now.display.grid r) in
    let row = c.loop-row.row in
    let size : Size = c.args.t.now.display.grid.size in
    let end : c.size-row-end.result.rows ≡ size.rows = ap (λ (z : Size). z.rows) c.size-row-end.ensures.size in
    let this : row ≡ suc (row - 1) = omega arith in
    let next : row + 1 - 1 ≡ suc (row - 1) = omega arith in
    let old = ap (λ cells. former looks cells) c.row-old.ensures.cells in
    let new = ap (λ cells. latter looks cells) c.row-new.ensures.cells in
    record {
      items = more_bytes olds news (row - 1) row (row + 1 - 1) c.args.pen c.loop-row.pen c.args.out.now.items _ _ _ _
          this next old new c.loop-row.invariant.pen c.loop-row.invariant.items c.push_row-pen.ensures.items;
      pen = more_pen olds news (row - 1) row (row + 1 - 1) c.args.pen c.loop-row.pen _ _ _
          this next old new c.loop-row.invariant.pen c.push_row-pen.ensures.pen;
      bounded = one_row row (places_limit size) _ _ _ (omega arith) c.loop-row.invariant.bounded
          (omega (
            arith,
            c.push_row-pen.ensures.bounded,
            places-fit size row (length c.row-new.result.now) (omega (arith, end))
                (few-cells size _ c.size-row-end.ensures.sound c.row-new.ensures.width).0,
          ));
      capacity = omega (arith, c.loop-row.invariant.capacity, c.push_row-pen.ensures.capacity);
    }

pub push_row-pen-requires-clause-room : goal.push_row-pen-requires-clause-room
push_row-pen-requires-clause-room c =
    let size : Size = c.args.t.now.display.grid.size in
    let row = c.loop-row.row in
    let end : c.size-row-end.result.rows ≡ size.rows = ap (λ (z : Size). z.rows) c.size-row-end.ensures.size in
    let few = few-cells size _ c.size-row-end.ensures.sound c.row-new.ensures.width in
    let cells = places-fit size row (length c.row-new.result.now) (omega (arith, end)) few.0 in
    let fits = one-more (places_limit size) row size.rows (omega arith) (omega (arith, end)) in
    omega (arith, c.loop-row.invariant.bounded, c.loop-row.invariant.capacity, c.requires.room, cells, fits)

pub row-old-requires : goal.row-old-requires
row-old-requires c =
    let end : c.size-row-end.result.rows ≡ c.args.t.now.display.grid.size.rows =
    ap (λ (z : Size). z.rows) c.size-row-end.ensures.size in (omega arith, omega (arith, end, c.requires.rows))

pub returns-clause-items : goal.returns-clause-items
returns-clause-items c =
    let rows = c.args.t.now.display.grid.size.rows in
    let end : c.size-row-end.result.rows ≡ rows = ap (λ (z : Size). z.rows) c.size-row-end.ensures.size in
    let all : c.loop-row.row - 1 ≡ rows = omega (arith, end) in
    rw all at c.loop-row.invariant.items

pub returns-clause-pen : goal.returns-clause-pen
returns-clause-pen c =
    let rows = c.args.t.now.display.grid.size.rows in
    let end : c.size-row-end.result.rows ≡ rows = ap (λ (z : Size). z.rows) c.size-row-end.ensures.size in
    let all : c.loop-row.row - 1 ≡ rows = omega (arith, end) in
    rw all at c.loop-row.invariant.pen

pub returns-clause-bounded : goal.returns-clause-bounded
returns-clause-bounded c =
    let rows = c.args.t.now.display.grid.size.rows in
    let end : c.size-row-end.result.rows ≡ rows = ap (λ (z : Size). z.rows) c.size-row-end.ensures.size in
    let all : c.loop-row.row - 1 ≡ rows = omega (arith, end) in
    rw all at c.loop-row.invariant.bounded
