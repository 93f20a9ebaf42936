use Rattle.std.proofs.Common.{arith}
use Rattle.vt_update.proofs.Elements.{appended_then}
use Rattle.vt_update.proofs.remote.Remote.change_row.Goals as goal

pub loop-i-preserved : goal.loop-i-preserved
loop-i-preserved g c =
    let before = c.loop-i.invariant in
    let step = c.write_part-count.ensures in
    record {
      old = before.old;
      new = before.new;
      appended = appended_then _ _ _ before.appended step.appended;
      capacity = omega (arith, before.capacity, step.capacity);
    }

pub returns-then-ne-clause-appended : goal.returns-then-ne-clause-appended
returns-then-ne-clause-appended g c = appended_then _ _ _ c.loop-i.invariant.appended c.write_filled.ensures.appended
