use Rattle.std.proofs.Common.{◌≡◌, ◌+◌, ◌-◌, ◌*◌, ◌≤◌, ◌++◌, vec_len, vec_capacity}
use Rattle.std.specs.List.{range_with_len, flat_map}
use Rattle.vt_screen.specs.Grid.{row_or}
use Rattle.vt_xterm_cell.specs.Cells.{blank_cell, row_text}
use Rattle.vt_xterm_display.specs.Text.{rows_text, xterm_row_limit}
use Rattle.vt_xterm_display.proofs.text.push_rows.Given as goal

-- what is appended, and the lines of the rows starting at this one
abbrev pub invariant-loop-row : goal.invariant-loop-row
invariant-loop-row l = record {
  items : l.out.items ++ flat_map (λ r. row_text (row_or blank_cell l.screen r)) (range_with_len l.row (l.count + 1 - l.row))
      ≡ l.initial.out.items ++ rows_text l.count l.screen;
  bounded : vec_len l.out ≤ vec_len l.initial.out + (l.row - 1) * xterm_row_limit l.screen.size;
  capacity : vec_capacity l.initial.out ≤ vec_capacity l.out;
}
