use Rattle.std.proofs.Common.{◌≡◌, ◌+◌, ◌<◌, arith, rules, ap, ◌-◌, ◌∙◌}
use Rattle.std.proofs.Math.ListN.{length-set}
use Rattle.vt_screen.specs.declared.size.Size.{Size}
use Rattle.vt_paint.specs.Changes.{differing_from, differing_at}
use Rattle.vt_paint.proofs.Differing.{row_more, counts_more, marks_more}
use Rattle.vt_paint.proofs.RowLimits.{few-cells, rows-so-far}
use Rattle.vt_paint.proofs.compare.changed_places.Goals as goal

pub row-requires : goal.row-requires
row-requires g c =
    let end : c.size-row-end.result.rows ≡ c.args.b.now.display.grid.size.rows =
    ap (λ (z : Size). z.rows) c.size-row-end.ensures.size in
    let same : c.args.a.now.display.grid.size.rows ≡ c.args.b.now.display.grid.size.rows =
    ap (λ (z : Size). z.rows) c.requires.size in (omega arith, omega (arith, end, same))

pub changed_in_row-places-requires : goal.changed_in_row-places-requires
changed_in_row-places-requires g c =
    let few = few-cells c.args.b.now.display.grid.size _ c.size-row-end.ensures.sound c.row-in-loop-row.ensures.width in (
      search rules,
      (
        omega (arith, c.row.ensures.len, c.row-in-loop-row.ensures.len, c.requires.width),
        omega (arith, few.0, c.requires.columns),
      ),
    )

pub loop-row-preserved : goal.loop-row-preserved
loop-row-preserved g c =
    let x = c.args.a.now.display.grid in
    let y = c.args.b.now.display.grid in
    let r = c.loop-row.row in
    let end : c.size-row-end.result.rows ≡ y.size.rows = ap (λ (z : Size). z.rows) c.size-row-end.ensures.size in
    let inside : r - 1 < g.row.R = omega (arith, end, c.requires.rows) in
    let step = c.changed_in_row-places.ensures in
    let places = c.changed_in_row-places.result.0 in
    let count = c.changed_in_row-places.result.1 in
    let few = few-cells y.size _ c.size-row-end.ensures.sound c.row-in-loop-row.ensures.width in
    let is = step.count x y r c.row.ensures.cells c.row-in-loop-row.ensures.cells
    ∙ ap (λ n. differing_from x y r 1 n) c.row-in-loop-row.ensures.len in
    record {
      marked = marks_more x y c.loop-row.marks r places c.row.result.now
          c.row-in-loop-row.result.now c.requires.width (omega arith) (omega (arith, inside, c.loop-row.invariant.len))
          c.row.ensures.cells c.row-in-loop-row.ensures.cells c.row-in-loop-row.ensures.len step.marked
          c.loop-row.invariant.marked;
      len = length-set c.loop-row.marks (r - 1) places ∙ c.loop-row.invariant.len;
      counted = counts_more x y c.loop-row.counts r count (omega arith) (omega (arith, inside, c.loop-row.invariant.many)) is
          c.loop-row.invariant.counted;
      many = length-set c.loop-row.counts (r - 1) count ∙ c.loop-row.invariant.many;
      count = row_more x y (r - 1) r (r + 1 - 1) c.loop-row.all count (omega arith) (omega arith)
          c.loop-row.invariant.count is;
      bounded = rows-so-far r y.width c.loop-row.all (c.loop-row.all + count) (omega arith) c.loop-row.invariant.bounded
          (omega (arith, step.bounded, c.row-in-loop-row.ensures.len));
      few = omega (arith, c.loop-row.invariant.few, step.bounded, few.0, few.1);
    }

pub returns-clause-marked : goal.returns-clause-marked
returns-clause-marked g c =
    let end : c.size-row-end.result.rows ≡ c.args.b.now.display.grid.size.rows =
    ap (λ (z : Size). z.rows) c.size-row-end.ensures.size in
    λ r k r1 last k1 inside. c.loop-row.invariant.marked r k r1 (omega (arith, end)) k1 inside

pub returns-clause-counted : goal.returns-clause-counted
returns-clause-counted g c =
    let end : c.size-row-end.result.rows ≡ c.args.b.now.display.grid.size.rows =
    ap (λ (z : Size). z.rows) c.size-row-end.ensures.size in
    λ r r1 last. c.loop-row.invariant.counted r r1 (omega (arith, end))

pub returns-clause-count : goal.returns-clause-count
unfolding differing_at
returns-clause-count g c =
    let end : c.size-row-end.result.rows ≡ c.args.b.now.display.grid.size.rows =
    ap (λ (z : Size). z.rows) c.size-row-end.ensures.size in
    let all : c.loop-row.row - 1 ≡ c.args.b.now.display.grid.size.rows = omega (arith, end) in
    rw all at c.loop-row.invariant.count

pub returns-clause-bounded : goal.returns-clause-bounded
returns-clause-bounded g c =
    let end : c.size-row-end.result.rows ≡ c.args.b.now.display.grid.size.rows =
    ap (λ (z : Size). z.rows) c.size-row-end.ensures.size in
    let all : c.loop-row.row - 1 ≡ c.args.b.now.display.grid.size.rows = omega (arith, end) in
    rw all at c.loop-row.invariant.bounded
