use Rattle.std.proofs.Common.{◌≡◌, ◌+◌, ◌-◌, ◌*◌, ◌≤◌, ◌++◌, vec_len, vec_capacity}
use Rattle.std.specs.List.{flat_map, range_with_len}
use Rattle.vt_feed.specs.Spelled.{spell}
use Rattle.vt_xterm_repaint.specs.Cells.{row_actions}
use Rattle.vt_xterm_repaint.specs.Limits.{row_limit}
use Rattle.vt_xterm_repaint.proofs.cells.push_rows.Given as goal

abbrev pub invariant-loop-row : goal.invariant-loop-row
invariant-loop-row l = record {
  items : l.out.items ≡ l.fn.out.items ++ spell (flat_map (row_actions l.screen) (range_with_len 1 (l.row - 1)));
  bounded : vec_len l.out ≤ vec_len l.fn.out + (l.row - 1) * row_limit l.screen.size;
  capacity : vec_capacity l.fn.out ≤ vec_capacity l.out;
}
