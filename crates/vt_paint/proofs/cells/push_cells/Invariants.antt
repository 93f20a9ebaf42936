use Rattle.std.proofs.Common.{◌≡◌, ◌+◌, ◌-◌, ◌*◌, ◌≤◌, ◌++◌, ◌||◌, not, vec_len, vec_capacity}
use Rattle.std.specs.List.{range_with_len, list_all}
use Rattle.vt_syntax.specs.Spelling.{spell_events}
use Rattle.vt_screen.specs.Grid.{row_of}
use Rattle.vt_paint.specs.Same.{is_blank}
use Rattle.vt_screen.specs.Same.{when}
use Rattle.vt_paint.specs.Controls.{spelling_sets_events}
use Rattle.vt_paint.specs.Limits.{row_limit}
use Rattle.vt_paint.specs.Private.Parts.{rows_from}
use Rattle.vt_paint.specs.Private.Room.{head_room}
use Rattle.vt_paint.proofs.cells.push_cells.Given as goal

abbrev pub invariant-loop-row : goal.invariant-loop-row
invariant-loop-row l = record {
  shown : l.shown
      ≡ (l.wrap || not (list_all (λ r. list_all is_blank (row_of l.t.display.grid r)) (range_with_len 1 (l.row - 1))));
  items : l.out.items
      ≡ l.fn.out.items
      ++ spell_events (when l.shown (spelling_sets_events ++ rows_from l.t.display.grid 1 (l.row - 1)));
  bounded : vec_len l.out + head_room l.shown ≤ vec_len l.fn.out + 11 + (l.row - 1) * row_limit l.t.display.grid.size;
  capacity : vec_capacity l.fn.out ≤ vec_capacity l.out;
}
