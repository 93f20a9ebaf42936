use Rattle.std.proofs.Common.{◌+◌, ◌*◌, ◌≤◌, vec_len, vec_capacity}
use Rattle.vt_xterm_update.specs.Private.Appended.{Appended}
use Rattle.vt_xterm_update.proofs.step.push_values.Given as goal

abbrev pub invariant-loop-i : goal.invariant-loop-i
invariant-loop-i l = record {
  appended : Appended l.fn.out.items l.out.items;
  bounded : vec_len l.out ≤ vec_len l.fn.out + 4 * l.i;
  capacity : vec_capacity l.fn.out ≤ vec_capacity l.out;
}
