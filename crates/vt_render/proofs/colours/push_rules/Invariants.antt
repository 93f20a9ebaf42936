use Rattle.std.proofs.Common.{◌≡◌, ◌+◌, ◌-◌, ◌*◌, ◌≤◌, length, take, vec_len, vec_capacity}
use Rattle.vt_render.proofs.colours.push_rules.Given as goal

abbrev pub invariant-loop-index : goal.invariant-loop-index
invariant-loop-index l = record {
  kept : take (length l.fn.out.items) l.out.items ≡ l.fn.out.items;
  bounded : vec_len l.out ≤ vec_len l.fn.out + 56 * l.index;
  capacity : vec_capacity l.fn.out ≤ vec_capacity l.out;
}
