use Rattle.std.proofs.Common.{◌≡◌, ◌+◌, ◌-◌, ◌*◌, ◌≤◌, ◌++◌, vec_len, vec_capacity}
use Rattle.vt_syntax.specs.Spelling.{spell_events}
use Rattle.vt_paint.specs.Limits.{row_limit}
use Rattle.vt_paint.specs.Private.ChangeEvents.{changed_rows}
use Rattle.vt_paint.proofs.changes.push_changed_cells.Given as goal

abbrev pub invariant-loop-row : goal.invariant-loop-row
invariant-loop-row g l = record {
  items : l.out.items ≡ l.fn.out.items ++ spell_events (changed_rows l.marks l.t.display.grid 1 (l.row - 1));
  bounded : vec_len l.out ≤ vec_len l.fn.out + (l.row - 1) * row_limit l.t.display.grid.size;
  capacity : vec_capacity l.fn.out ≤ vec_capacity l.out;
}
