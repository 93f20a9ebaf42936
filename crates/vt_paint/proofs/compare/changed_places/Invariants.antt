use Rattle.std.proofs.Common.{◌≡◌, ◌-◌, ◌*◌, ◌≤◌, ◌<◌, ℕ, length, slice_index_or}
use Rattle.vt_paint.specs.Changes.{is_marked, differs_at, differing_from, differing_rows}
use Rattle.vt_paint.proofs.compare.changed_places.Given as goal

abbrev pub invariant-loop-row : goal.invariant-loop-row
invariant-loop-row g l = record {
  marked : (r c : ℕ) → 1 ≤ r → r < l.row → 1 ≤ c → c ≤ l.b.display.grid.width
      → is_marked l.marks r c ≡ differs_at l.a.display.grid l.b.display.grid r c;
  len : length l.marks ≡ g.row.R;
  counted : (r : ℕ) → 1 ≤ r → r < l.row → slice_index_or l.counts (r - 1) 0
      ≡ differing_from l.a.display.grid l.b.display.grid r 1 l.b.display.grid.width;
  many : length l.counts ≡ g.row.R;
  count : l.all ≡ differing_rows l.a.display.grid l.b.display.grid 1 (l.row - 1);
  bounded : l.all ≤ (l.row - 1) * l.b.display.grid.width;
  few : l.all ≤ 255 * (l.row - 1);
}
