use Rattle.std.proofs.Common.{◌≡◌, ◌+◌, ◌-◌, ◌*◌, ◌≤◌, ◌++◌, vec_len, vec_capacity}
use Rattle.vt_screen.specs.Grid.{row_of}
use Rattle.vt_picture.specs.Draw.{rows_bytes, rows_pen}
use Rattle.vt_picture.specs.Limits.{places_limit}
use Rattle.vt_picture.specs.Private.Looks.{former, latter}
use Rattle.vt_picture.proofs.drawing.push_rows.Given as goal

abbrev pub invariant-loop-row : goal.invariant-loop-row
invariant-loop-row l = record {
  items : l.out.items
      ≡ l.fn.out.items
      ++ rows_bytes (λ r. former l.looks (row_of l.shown.display.grid r)) (λ r. latter l.looks (row_of l.t.display.grid r))
      (l.row - 1) l.fn.pen;
  pen : l.pen
      ≡ rows_pen (λ r. former l.looks (row_of l.shown.display.grid r)) (λ r. latter l.looks (row_of l.t.display.grid r))
      (l.row - 1) l.fn.pen;
  bounded : vec_len l.out ≤ vec_len l.fn.out + (l.row - 1) * places_limit l.t.display.grid.size;
  capacity : vec_capacity l.fn.out ≤ vec_capacity l.out;
}
