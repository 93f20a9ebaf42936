use Rattle.std.proofs.Common.{◌≡◌, ◌+◌, ◌-◌, ◌*◌, ◌≤◌, ◌++◌, List, [], Bool, slice_index_or, vec_len, vec_capacity}
use Rattle.vt_syntax.specs.Spelling.{spell_events}
use Rattle.vt_screen.specs.Grid.{Grid, row_of}
use Rattle.vt_paint.specs.Limits.{cell_limit}
use Rattle.vt_paint.specs.Private.ChangeEvents.{changes_from}
use Rattle.vt_paint.proofs.changes.push_changed_row.Given as goal

abbrev pub invariant-loop-i : goal.invariant-loop-i
invariant-loop-i g l = record {
  items : (x : Grid) (all : List (List Bool)) → l.cells ≡ row_of x l.row → l.marks ≡ slice_index_or all (l.row - 1) []
      → l.out.items ≡ l.fn.out.items ++ spell_events (changes_from all x l.row 1 l.i);
  bounded : vec_len l.out ≤ vec_len l.fn.out + cell_limit l.row * l.i;
  capacity : vec_capacity l.fn.out ≤ vec_capacity l.out;
}
