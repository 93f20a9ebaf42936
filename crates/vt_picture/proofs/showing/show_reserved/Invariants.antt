use Rattle.std.proofs.Common.{◌≡◌, ◌+◌, ◌-◌, ◌*◌, ◌≤◌, ◌++◌, vec_len, vec_capacity}
use Rattle.vt_picture.specs.Show.{shown_lines}
use Rattle.vt_picture.specs.Limits.{shown_line_limit}
use Rattle.vt_picture.proofs.showing.show_reserved.Given as goal

abbrev pub invariant-loop-row : goal.invariant-loop-row
invariant-loop-row l = record {
  items : l.out.items ≡ l.fn.out.items ++ shown_lines (l.row - 1) l.t.display.grid;
  bounded : vec_len l.out ≤ vec_len l.fn.out + (l.row - 1) * shown_line_limit l.t.display.grid.size;
  capacity : vec_capacity l.fn.out ≤ vec_capacity l.out;
}
