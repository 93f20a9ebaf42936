use Rattle.std.proofs.Common.{◌≡◌, ◌+◌, ◌-◌, ◌*◌, ◌≤◌, ◌++◌, drop, length, vec_len, vec_capacity}
use Rattle.vt_screen.specs.Cells.{blank}
use Rattle.vt_picture.specs.Picture.{cells_picture, row_picture}
use Rattle.vt_picture.proofs.Cutting.{left_cell}
use Rattle.vt_picture.proofs.runs.push_row.Given as goal

-- what is left of the row completes it
abbrev pub invariant-loop-i : goal.invariant-loop-i
invariant-loop-i l = record {
  items : l.out.items ++ cells_picture l.reversed l.row (l.i + 1) (left_cell l.cells l.i) (drop l.i l.cells)
      ≡ l.fn.out.items ++ row_picture l.reversed l.row l.cells;
  blank : l.blank ≡ blank;
  within : l.i ≤ length l.cells;
  bounded : vec_len l.out ≤ vec_len l.fn.out + 203 * l.i;
  capacity : vec_capacity l.fn.out ≤ vec_capacity l.out;
}

abbrev pub decreases-loop-i : goal.decreases-loop-i
decreases-loop-i l = length l.cells - l.i
