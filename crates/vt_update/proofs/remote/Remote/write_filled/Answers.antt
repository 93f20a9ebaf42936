use Rattle.std.proofs.Common.{arith}
use Rattle.vt_update.proofs.Elements.{appended_then}
use Rattle.vt_update.proofs.remote.Remote.write_filled.Goals as goal

pub loop-i-preserved : goal.loop-i-preserved
loop-i-preserved c =
    let before = c.loop-i.invariant in
    let step = c.write_part-i.ensures in
    record {
      blank = before.blank;
      new = before.new;
      appended = appended_then _ _ _ before.appended step.appended;
      capacity = omega (arith, before.capacity, step.capacity);
    }
