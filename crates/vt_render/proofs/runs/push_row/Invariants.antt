use Rattle.std.proofs.Common.{◌≡◌, ◌+◌, ◌-◌, ◌*◌, ◌≤◌, length, take, vec_len, vec_capacity}
use Rattle.vt_render.proofs.runs.push_row.Given as goal

abbrev pub invariant-loop-at : goal.invariant-loop-at
invariant-loop-at l = record {
  within : l.at ≤ length l.cells;
  kept : take (length l.fn.out.items) l.out.items ≡ l.fn.out.items;
  bounded : vec_len l.out ≤ vec_len l.fn.out + 287 * l.at;
  capacity : vec_capacity l.fn.out ≤ vec_capacity l.out;
}

abbrev pub decreases-loop-at : goal.decreases-loop-at
decreases-loop-at l = length l.cells - l.at
