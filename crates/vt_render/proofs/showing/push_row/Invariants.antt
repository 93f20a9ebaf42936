use Rattle.std.proofs.Common.{◌≡◌, ◌+◌, ◌-◌, ◌*◌, ◌≤◌, length, take, vec_len, vec_capacity}
use Rattle.vt_render.proofs.showing.push_row.Given as goal

abbrev pub invariant-loop-cell : goal.invariant-loop-cell
invariant-loop-cell l = record {
  kept : take (length l.fn.out.items) l.out.items ≡ l.fn.out.items;
  bounded : vec_len l.out ≤ vec_len l.fn.out + 73 * l.cell-index;
  capacity : vec_capacity l.fn.out ≤ vec_capacity l.out;
}
