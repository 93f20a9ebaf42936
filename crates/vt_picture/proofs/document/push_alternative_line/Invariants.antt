use Rattle.std.proofs.Common.{◌≡◌, ◌+◌, ◌*◌, ◌≤◌, ◌++◌, drop, vec_len, vec_capacity}
use Rattle.std.specs.List.{flat_map}
use Rattle.vt_picture.specs.Picture.{escaped}
use Rattle.vt_picture.proofs.document.push_alternative_line.Given as goal

abbrev pub invariant-loop-cell : goal.invariant-loop-cell
invariant-loop-cell l = record {
  items : l.out.items ++ flat_map (λ cell. escaped cell.glyph) (drop l.cell-index l.cell-items)
      ≡ l.fn.out.items ++ flat_map (λ cell. escaped cell.glyph) l.cell-items;
  bounded : vec_len l.out ≤ vec_len l.fn.out + 5 * l.cell-index;
  capacity : vec_capacity l.fn.out ≤ vec_capacity l.out;
}
