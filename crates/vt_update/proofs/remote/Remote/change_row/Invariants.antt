use Rattle.std.proofs.Common.{◌-◌, ◌≤◌, length, vec_capacity}
use Rattle.vt_update.specs.Private.Appended.{Appended}
use Rattle.vt_update.proofs.remote.Remote.change_row.Given as goal

abbrev pub invariant-loop-i : goal.invariant-loop-i
invariant-loop-i g l = record {
  old : l.columns ≤ length l.old;
  new : l.columns ≤ length l.new;
  appended : Appended l.fn.out.items l.out.items;
  capacity : vec_capacity l.fn.out ≤ vec_capacity l.out;
}

abbrev pub decreases-loop-i : goal.decreases-loop-i
decreases-loop-i g l = l.columns - l.i
