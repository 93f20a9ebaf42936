use Rattle.std.proofs.Common.{arith, ◌∙◌, refl}
use Rattle.vt_wide.proofs.Parting.{rows_none, rows_more, rows_all}
use Rattle.vt_wide.proofs.editing.part_rows.Goals as goal

pub loop-row-init : goal.loop-row-init
loop-row-init g c = record {
  rows = rows_none _ _ _ _ c.args.top c.args.col c.width.ensures.grid;
  size = refl;
  width = refl;
  sound = c.width.ensures.sound;
}

pub loop-row-preserved : goal.loop-row-preserved
loop-row-preserved g c = record {
  rows = c.space.ensures.grid
      ∙ rows_more _ _ _ _ c.loop-row.screen c.args.top c.loop-row.row c.args.col (omega arith) (omega (arith, c.loop-row-test.true)) c.loop-row.invariant.rows;
  size = c.space.ensures.size ∙ c.loop-row.invariant.size;
  width = c.space.ensures.width ∙ c.loop-row.invariant.width;
  sound = c.space.ensures.sound;
}

pub returns-clause-grid : goal.returns-clause-grid
returns-clause-grid g c =
    c.loop-row.invariant.rows ∙ rows_all _ _ _ _ c.args.top c.args.bottom c.loop-row.row c.args.col (omega (arith, c.loop-row-test.false, c.loop-row.auto))
