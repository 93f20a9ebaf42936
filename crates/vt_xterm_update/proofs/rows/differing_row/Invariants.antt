use Rattle.std.proofs.Common.{◌-◌, ◌+◌, ◌≤◌}
use Rattle.vt_xterm_update.proofs.rows.differing_row.Given as goal

abbrev pub invariant-loop-row : goal.invariant-loop-row
invariant-loop-row l = record {
  some : 1 ≤ l.row;
  from : l.from ≤ l.row;
  few : l.rows ≤ 255;
  rows : l.rows ≤ l.d.shown.grid.size.rows;
  rows_of_t : l.rows ≤ l.t.shown.grid.size.rows;
}

abbrev pub decreases-loop-row : goal.decreases-loop-row
decreases-loop-row l = l.rows + 1 - l.row
