use Rattle.std.proofs.Common.{◌≡◌, ◌+◌, ◌-◌, ◌*◌, ◌≤◌, length, take, vec_len, vec_capacity}
use Rattle.vt_render.specs.Limits.{shown_row_limit}
use Rattle.vt_render.proofs.showing.show_reserved.Given as goal

abbrev pub invariant-loop-row : goal.invariant-loop-row
invariant-loop-row g l = record {
  kept : take (length l.fn.out.items) l.out.items ≡ l.fn.out.items;
  bounded : vec_len l.out ≤ vec_len l.fn.out + (l.row - 1) * shown_row_limit (g.S.Renderable.size_of l.screen);
  capacity : vec_capacity l.fn.out ≤ vec_capacity l.out;
}
