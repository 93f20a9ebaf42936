-- The texts of the cells before this one are appended.
use Rattle.std.proofs.Common.{◌≡◌, ◌≤◌, ◌+◌, ◌*◌, ◌++◌, take, flat_map, vec_len, vec_capacity, encode_utf8_all}
use Rattle.vt_xterm_cell.specs.Cells.{cell_text}
use Rattle.vt_xterm_display.proofs.text.push_line.Given as goal

abbrev pub invariant-loop-cell : goal.invariant-loop-cell
invariant-loop-cell l = record {
  items : l.out.items ≡ l.initial.out.items ++ encode_utf8_all (flat_map cell_text (take l.cell-index l.cells));
  bounded : vec_len l.out ≤ vec_len l.initial.out + 12 * l.cell-index;
  capacity : vec_capacity l.initial.out ≤ vec_capacity l.out;
}
