-- The lines that are appended, and those of the rows starting at this one.
use Rattle.std.proofs.Common.{◌≡◌, ◌+◌, ◌-◌, ◌*◌, ◌≤◌, ◌++◌, flat_map, map, vec_len, vec_capacity}
use Rattle.std.specs.List.{range_with_len}
use Rattle.vt_screen.specs.Grid.{row_of}
use Rattle.vt_term.specs.Text.{line_text, row_text_limit}
use Rattle.vt_xterm.specs.Log.{first_rows}
use Rattle.vt_xterm.proofs.log.push_first.Given as goal

abbrev pub invariant-loop-row : goal.invariant-loop-row
invariant-loop-row l = record {
  items : l.lines.items ++ flat_map line_text (map (λ r. row_of l.terminal.display.grid r)
      (range_with_len l.row (l.count + 1 - l.row)))
      ≡ l.initial.lines.items ++ flat_map line_text (first_rows l.count l.terminal.display.grid);
  bounded : vec_len l.lines ≤ vec_len l.initial.lines + (l.row - 1) * row_text_limit l.terminal.display.grid.size;
  capacity : vec_capacity l.initial.lines ≤ vec_capacity l.lines;
}
