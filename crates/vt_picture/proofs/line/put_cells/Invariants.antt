use Rattle.std.proofs.Common.{◌≡◌, ◌+◌, ◌-◌, ◌*◌, ◌≤◌, ◌++◌, drop, take, length, vec_len, vec_capacity}
use Rattle.vt_screen.specs.Cells.{plain}
use Rattle.vt_picture.specs.Show.{shown_behind}
use Rattle.vt_picture.proofs.line.put_cells.Given as goal

-- what is left of the cells completes what is written
abbrev pub invariant-loop-i : goal.invariant-loop-i
invariant-loop-i l = record {
  items : (l.out.items ++ take l.at l.line) ++ shown_behind l.run.look (drop l.i l.cells)
      ≡ l.fn.out.items ++ shown_behind plain l.cells;
  within : l.i ≤ length l.cells;
  fits : l.at + 3 * length l.cells ≤ 2032 + 3 * l.i;
  bounded : vec_len l.out + l.at ≤ vec_len l.fn.out + 16 * l.i;
  capacity : vec_capacity l.fn.out ≤ vec_capacity l.out;
}

abbrev pub decreases-loop-i : goal.decreases-loop-i
decreases-loop-i l = length l.cells - l.i
