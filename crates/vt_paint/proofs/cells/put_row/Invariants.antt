use Rattle.std.proofs.Common.{◌≡◌, ◌+◌, ◌-◌, ◌*◌, ◌≤◌, ◌<◌, ◌++◌, false, take, length, vec_len, vec_capacity}
use Rattle.vt_syntax.specs.Spelling.{spell_events}
use Rattle.vt_screen.specs.Cells.{brush_of}
use Rattle.vt_screen.specs.Grid.{Grid, row_of, cell_at}
use Rattle.vt_paint.specs.Same.{is_blank}
use Rattle.vt_paint.specs.Limits.{cell_limit}
use Rattle.vt_paint.specs.Private.Parts.{pieces_from}
use Rattle.vt_paint.specs.Private.HeaderParts.{brush_number}
use Rattle.vt_paint.proofs.RowRuns.{IsFresh}
use Rattle.vt_paint.proofs.cells.put_row.Given as goal

abbrev pub invariant-loop-i : goal.invariant-loop-i
invariant-loop-i l = record {
  items : (g : Grid) → l.cells ≡ row_of g l.row
      → l.out.items ++ take l.at l.line ≡ l.fn.out.items ++ spell_events (pieces_from g l.row 1 l.i);
  fresh : (g : Grid) → l.cells ≡ row_of g l.row → l.i < length l.cells → IsFresh g l.row (l.i + 1);
  within : l.i ≤ length l.cells;
  fits : l.at ≤ 2048;
  bounded : vec_len l.out + l.at ≤ vec_len l.fn.out + cell_limit l.row * l.i;
  capacity : vec_capacity l.fn.out ≤ vec_capacity l.out;
}

-- the cell before is one of the run
abbrev pub invariant-loop-i-then-not-is_blank : goal.invariant-loop-i-then-not-is_blank
invariant-loop-i-then-not-is_blank l = record {
  items : (g : Grid) → l.cells ≡ row_of g l.row
      → l.out.items ++ take l.at l.line ≡ l.fn.out.items ++ spell_events (pieces_from g l.row 1 l.i);
  left : (g : Grid) → l.cells ≡ row_of g l.row → (is_blank (cell_at g l.row l.i) ≡ false)
      × (l.run.number ≡ brush_number (brush_of (cell_at g l.row l.i)));
  on : (1 ≤ l.i) × (l.initial.i ≤ l.i);
  within : l.i ≤ length l.cells;
  fits : l.at + 3 * l.initial.i ≤ 1278 + 3 * l.i;
  bounded : vec_len l.out + l.at ≤ vec_len l.fn.out + cell_limit l.row * l.i;
  capacity : vec_capacity l.fn.out ≤ vec_capacity l.out;
}

abbrev pub decreases-loop-i-then-not-is_blank : goal.decreases-loop-i-then-not-is_blank
decreases-loop-i-then-not-is_blank l = length l.cells - l.i

abbrev pub decreases-loop-i : goal.decreases-loop-i
decreases-loop-i l = length l.cells - l.i
