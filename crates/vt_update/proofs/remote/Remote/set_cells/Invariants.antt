use Rattle.std.proofs.Common.{◌≤◌, vec_capacity}
use Rattle.vt_update.specs.Private.Appended.{Appended}
use Rattle.vt_update.proofs.remote.Remote.set_cells.Given as goal

abbrev pub invariant-loop-row : goal.invariant-loop-row
invariant-loop-row g l = record {
  appended : Appended l.fn.out.items l.out.items;
  capacity : vec_capacity l.fn.out ≤ vec_capacity l.out;
}
