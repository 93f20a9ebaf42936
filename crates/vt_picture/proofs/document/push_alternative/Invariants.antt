use Rattle.std.proofs.Common.{◌≡◌, ◌+◌, ◌-◌, ◌*◌, ◌≤◌, ◌++◌, vec_len, vec_capacity}
use Rattle.vt_picture.specs.Picture.{alternative}
use Rattle.vt_picture.proofs.document.push_alternative.Given as goal

abbrev pub invariant-loop-row : goal.invariant-loop-row
invariant-loop-row l = record {
  items : l.out.items ≡ l.fn.out.items ++ alternative (l.row - 1) l.t.display.grid;
  bounded : vec_len l.out ≤ vec_len l.fn.out + (l.row - 1) * (5 * l.t.display.grid.size.wide + 1);
  capacity : vec_capacity l.fn.out ≤ vec_capacity l.out;
}
