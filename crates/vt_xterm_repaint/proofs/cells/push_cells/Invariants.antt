use Rattle.std.proofs.Common.{◌≡◌, ◌+◌, ◌*◌, ◌≤◌, ◌++◌, drop, vec_len, vec_capacity}
use Rattle.vt_feed.specs.Spelled.{spell}
use Rattle.vt_xterm_cell.specs.Look.{plain_look}
use Rattle.vt_xterm_repaint.specs.Cells.{cells_actions}
use Rattle.vt_xterm_repaint.proofs.cells.push_cells.Given as goal

-- what is appended, and what the remaining cells still give
abbrev pub invariant-loop-i : goal.invariant-loop-i
invariant-loop-i l = record {
  items : l.out.items ++ spell (cells_actions l.before.look (drop l.i l.cells))
      ≡ l.fn.out.items ++ spell (cells_actions plain_look l.cells);
  bounded : vec_len l.out ≤ vec_len l.fn.out + 78 * l.i;
  capacity : vec_capacity l.fn.out ≤ vec_capacity l.out;
}
