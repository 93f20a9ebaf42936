use Rattle.std.proofs.Common.{arith}
use Rattle.vt_xterm_update.proofs.Turns.{appended_none, appended_then}
use Rattle.vt_xterm_update.proofs.step.push_values.Goals as goal

pub loop-i-init : goal.loop-i-init
loop-i-init c = record { appended = appended_none _; bounded = omega arith; capacity = omega arith }

pub loop-i-preserved : goal.loop-i-preserved
loop-i-preserved c = record {
  appended = appended_then _ _ _ c.loop-i.invariant.appended c.push_value.ensures.appended;
  bounded = omega (arith, c.loop-i.invariant.bounded, c.push_value.ensures.bounded);
  capacity = omega (arith, c.loop-i.invariant.capacity, c.push_value.ensures.capacity);
}
