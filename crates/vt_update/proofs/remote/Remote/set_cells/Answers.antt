use Rattle.std.proofs.Common.{arith}
use Rattle.vt_update.proofs.Elements.{appended_none, appended_then}
use Rattle.vt_update.proofs.remote.Remote.set_cells.Goals as goal

pub loop-row-init : goal.loop-row-init
loop-row-init g c = record { appended = appended_none _; capacity = omega arith }

pub loop-row-preserved : goal.loop-row-preserved
loop-row-preserved g c =
    let step = c.set_row-erased.ensures in
    record {
      appended = appended_then _ _ _ c.loop-row.invariant.appended step.appended;
      capacity = omega (arith, c.loop-row.invariant.capacity, step.capacity);
    }
