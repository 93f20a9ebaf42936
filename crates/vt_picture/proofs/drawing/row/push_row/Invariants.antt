use Rattle.std.proofs.Common.{◌≡◌, ◌+◌, ◌-◌, ◌*◌, ◌≤◌, ◌++◌, drop, length, vec_len, vec_capacity}
use Rattle.vt_picture.specs.Draw.{row_bytes, row_pen}
use Rattle.vt_picture.specs.Limits.{place_limit}
use Rattle.vt_picture.specs.Private.Looks.{former, latter}
use Rattle.vt_picture.proofs.drawing.row.push_row.Given as goal

-- what is left of the row completes it
abbrev pub invariant-loop-i : goal.invariant-loop-i
invariant-loop-i l = record {
  items : l.out.items
      ++ row_bytes l.row (l.i + 1) (former l.looks (drop l.i l.old)) (latter l.looks (drop l.i l.new)) l.pen
      ≡ l.fn.out.items ++ row_bytes l.row 1 (former l.looks l.old) (latter l.looks l.new) l.fn.pen;
  pen : row_pen l.row (l.i + 1) (former l.looks (drop l.i l.old)) (latter l.looks (drop l.i l.new)) l.pen
      ≡ row_pen l.row 1 (former l.looks l.old) (latter l.looks l.new) l.fn.pen;
  within : l.i ≤ length l.new;
  bounded : vec_len l.out ≤ vec_len l.fn.out + place_limit l.row * l.i;
  capacity : vec_capacity l.fn.out ≤ vec_capacity l.out;
}

abbrev pub decreases-loop-i : goal.decreases-loop-i
decreases-loop-i l = length l.new - l.i
