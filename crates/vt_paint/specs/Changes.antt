-- The places at which two screens differ, and what bytes do that write these places alone. (this profile)
use Rattle.std.specs.Prelude.{◌≡◌, ◌≤◌, ℕ, ◌-◌, List, [], ◌++◌, Bool, false, not, ◌==◌, ◌&&◌, if◌then◌else◌}
use Rattle.std.specs.Prelude.{slice_index_or}
use Rattle.std.specs.List.{range_with_len, sum_by}
use Rattle.vt_screen.specs.declared.cell.Cell.{Cell}
use Rattle.vt_screen.specs.Cells.{brush_of}
use Rattle.vt_screen.specs.declared.size.Size.{Size}
use Rattle.vt_screen.specs.Grid.{Grid, cell_at}
use Rattle.vt_term.specs.State.{Display, State, last_column}
use Rattle.vt_term.specs.Play.{play}
use Rattle.vt_screen.specs.Same.{same_brush}

-- two cells have the same glyph, attributes and protection
abbrev pub same_cell : Cell → Cell → Bool
same_cell a b = a.glyph == b.glyph && same_brush (brush_of a) (brush_of b)

-- two screens have different cells at a place
abbrev pub differs_at : Grid → Grid → ℕ → ℕ → Bool
differs_at a b r c = not (same_cell (cell_at a r c) (cell_at b r c))

-- the number of places at which two screens differ, among n places of a row from a column on
abbrev pub differing_from : Grid → Grid → ℕ → ℕ → ℕ → ℕ
differing_from a b r c n = sum_by (λ c. if differs_at a b r c then 1 else 0) (range_with_len c n)

-- the number of places at which two screens differ, in n rows from a row on
abbrev pub differing_rows : Grid → Grid → ℕ → ℕ → ℕ
differing_rows a b r n = sum_by (λ r. differing_from a b r 1 b.width) (range_with_len r n)

-- the number of places at which two screens of this size differ
unfoldable pub differing_at : Size → Grid → Grid → ℕ
differing_at size a b = differing_rows a b 1 size.rows

-- a place is marked, in a list of rows
abbrev pub is_marked : List (List Bool) → ℕ → ℕ → Bool
is_marked marks r c = slice_index_or (slice_index_or marks (r - 1) []) (c - 1) false

-- exactly the places of a screen of this size are marked at which two screens differ
abbrev pub AreMarkedAt : Size → List (List Bool) → Grid → Grid → Type 0
AreMarkedAt size marks a b =
    (r c : ℕ) → 1 ≤ r → r ≤ size.rows → 1 ≤ c → c ≤ b.width → is_marked marks r c ≡ differs_at a b r c

-- the count of each row of a screen of this size is that of the places at which two screens differ
abbrev pub AreCountedAt : Size → List ℕ → Grid → Grid → Type 0
AreCountedAt size counts a b =
    (r : ℕ) → 1 ≤ r → r ≤ size.rows → slice_index_or counts (r - 1) 0 ≡ differing_from a b r 1 b.width

-- two displays of this size have the same width and the same stops, and the places are marked at which their screens differ
pub record AreChangesAt (size : Size) (marks : List (List Bool)) (s t : Display) : Type 0 where
  pub width : last_column s ≡ last_column t
  pub stops : s.stops ≡ t.stops
  pub marked : AreMarkedAt size marks s.grid t.grid

-- `after` is what was there before, and then bytes that lead from one state to the other, and ask for no report
pub record Changes (s t : State) (before after : List ℕ) : Type 0 where
  pub sent : List ℕ
  pub appended : after ≡ before ++ sent
  pub played : play s sent ≡ record { state = t; reports = [] }
