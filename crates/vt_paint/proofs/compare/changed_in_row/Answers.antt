use Rattle.std.proofs.Common.{rules, arith, ◌∙◌}
use Rattle.std.proofs.Math.ListN.{length-set}
use Rattle.vt_paint.proofs.Pushing.{cell-is}
use Rattle.vt_paint.proofs.Differing.{place_more, none_differ, as_number-small, mark_more, unmarked}
use Rattle.vt_paint.proofs.compare.changed_in_row.Goals as goal

pub loop-i-preserved : goal.loop-i-preserved
loop-i-preserved g c =
    let i = c.loop-i.i in
    record {
      marked = mark_more c.args.a.now c.args.b.now c.loop-i.marks i c.index-a-i.result c.index-b-i.result
          c.differ-differs.result
          (omega (arith, c.requires.len)) c.loop-i-test.true (omega (arith, c.loop-i.invariant.len, c.requires.short))
          c.index-a-i.is c.index-b-i.is c.differ-differs.ensures c.loop-i.invariant.marked;
      len = length-set c.loop-i.marks i c.differ-differs.result ∙ c.loop-i.invariant.len;
      count = λ x y r e f.
          place_more x y r i c.loop-i.count c.index-a-i.result c.index-b-i.result c.differ-differs.result
          (cell-is x r i c.args.a.now c.index-a-i.result e (omega (arith, c.requires.len)) c.index-a-i.is)
          (cell-is y r i c.args.b.now c.index-b-i.result f c.loop-i-test.true c.index-b-i.is)
          c.differ-differs.ensures (c.loop-i.invariant.count x y r e f);
      bounded = omega (arith, c.loop-i.invariant.bounded, as_number-small c.differ-differs.result);
    }

pub returns-then-same_cells-clause-marked : goal.returns-then-same_cells-clause-marked
returns-then-same_cells-clause-marked g c =
    λ i inside. unmarked c.args.a.now c.args.b.now i g.row.C (c.if-same_cells.ensures.0 (search rules))
    (omega (arith, c.requires.short))

pub returns-then-same_cells-clause-count : goal.returns-then-same_cells-clause-count
returns-then-same_cells-clause-count g c =
    λ x y r e f. none_differ x y r c.args.a.now c.args.b.now
    (c.if-same_cells.ensures.0 (search rules)) e f
