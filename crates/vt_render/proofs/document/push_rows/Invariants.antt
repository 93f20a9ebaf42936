use Rattle.std.proofs.Common.{◌≡◌, ◌+◌, ◌-◌, ◌*◌, ◌≤◌, length, take, vec_len, vec_capacity}
use Rattle.vt_render.specs.Limits.{picture_row_limit}
use Rattle.vt_render.proofs.document.push_rows.Given as goal

abbrev pub invariant-loop-row : goal.invariant-loop-row
invariant-loop-row g l = record {
  kept : take (length l.fn.out.items) l.out.items ≡ l.fn.out.items;
  bounded : vec_len l.out ≤ vec_len l.fn.out + (l.row - 1) * picture_row_limit (g.S.Renderable.size_of l.screen);
  capacity : vec_capacity l.fn.out ≤ vec_capacity l.out;
}
