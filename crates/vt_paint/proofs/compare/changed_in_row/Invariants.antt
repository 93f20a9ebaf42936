use Rattle.std.proofs.Common.{◌≡◌, ◌≤◌, ◌<◌, ℕ, false, not, length, slice_index_or}
use Rattle.vt_screen.specs.Cells.{blank}
use Rattle.vt_screen.specs.Grid.{Grid, row_of}
use Rattle.vt_paint.specs.Changes.{same_cell, differing_from}
use Rattle.vt_paint.proofs.compare.changed_in_row.Given as goal

abbrev pub invariant-loop-i : goal.invariant-loop-i
invariant-loop-i g l = record {
  marked : (i : ℕ) → i < l.i → slice_index_or l.marks i false
      ≡ not (same_cell (slice_index_or l.a i blank) (slice_index_or l.b i blank));
  len : length l.marks ≡ g.row.C;
  count : (x y : Grid) (r : ℕ) → l.a ≡ row_of x r → l.b ≡ row_of y r → l.count ≡ differing_from x y r 1 l.i;
  bounded : l.count ≤ l.i;
}
