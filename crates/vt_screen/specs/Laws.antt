-- The laws of the grid, each a record that the proofs of the crates above can pass on.
use Rattle.std.specs.Prelude.{◌≡◌, ℕ, ◌+◌, ◌*◌, ◌-◌, ◌≤◌, List, [], ◌∷◌, ◌++◌, length, slice_index_or, Bool}
use Rattle.std.specs.Prelude.{IsTrue}
use Rattle.vt_screen.specs.declared.cell.Cell.{Cell}
use Rattle.vt_screen.specs.Cells.{blank, cell_like}
use Rattle.vt_screen.specs.declared.size.Size.{Size}
use Rattle.vt_screen.specs.Sizes.{IsSize}
use Rattle.vt_screen.specs.Grid.{Grid, IsGrid, AllCells, grid_of, cell_at, row_of, blank_grid}
use Rattle.vt_screen.specs.Grid.{put, put_run, grid_on, IsSoundGrid}

-- what a formula's grid has at a place, and when two grids are equal
pub record PlaceLaws : Type 0 where
  -- the cell at a place is what the formula gives there
  pub at_place : (s : Size) (w : ℕ) (f : ℕ → ℕ → Cell) (r c : ℕ) → 1 ≤ r → r ≤ s.rows → 1 ≤ c → c ≤ w
      → cell_at (grid_of s w f) r c ≡ f r c
  -- formulas that agree at every place make one grid
  pub same_formulas : (s : Size) (w : ℕ) (f g : ℕ → ℕ → Cell)
      → ((r c : ℕ) → 1 ≤ r → r ≤ s.rows → 1 ≤ c → c ≤ w → f r c ≡ g r c) → grid_of s w f ≡ grid_of s w g
  -- a grid is the one that its own cells make
  pub own_cells : (g : Grid) → IsGrid g → grid_of g.size g.width (cell_at g) ≡ g
  -- grids of one width with the same cell at every place are equal
  pub same_grids : (g h : Grid) → IsGrid g → IsGrid h → g.size ≡ h.size → g.width ≡ h.width
      → ((r c : ℕ) → 1 ≤ r → r ≤ g.size.rows → 1 ≤ c → c ≤ g.width → cell_at g r c ≡ cell_at h r c) → g ≡ h
  -- a formula's grid has a cell for each place, and a map of a grid is a grid
  pub len : (s : Size) (w : ℕ) (f : ℕ → ℕ → Cell) → length (grid_of s w f).cells ≡ s.rows * w
  pub blank : (s : Size) (wide : Bool) → IsSize s → IsGrid (blank_grid s wide)
  pub map : (g : Grid) (f : ℕ → ℕ → Cell) → IsGrid g → IsGrid (grid_of g.size g.width f)

-- a row has the cells of its columns, in order
pub record RowLaws : Type 0 where
  pub len : (g : Grid) (r : ℕ) → length (row_of g r) ≡ g.width
  pub cell : (g : Grid) (r c : ℕ) (d : Cell) → 1 ≤ c → c ≤ g.width → slice_index_or (row_of g r) (c - 1) d
      ≡ cell_at g r c

-- a run of glyphs is written as its glyphs are, one after another
pub record RunLaws : Type 0 where
  pub none : (g : Grid) (row col : ℕ) (like : Cell) → IsGrid g → put_run g row col [] like ≡ g
  pub one : (g : Grid) (row col glyph : ℕ) (like : Cell)
      → put_run g row col (glyph ∷ []) like ≡ put g row col (cell_like like glyph)
  pub append : (g : Grid) (row col : ℕ) (a b : List ℕ) (like : Cell)
      → put_run g row col (a ++ b) like ≡ put_run (put_run g row col a like) row (col + length a) b like

-- a test that a blank cell and each cell of a grid pass is passed at every place; a formula's grid passes a test that
-- the formula passes at every place
pub record TestLaws : Type 0 where
  pub at : (test : Cell → Bool) (g : Grid) (r c : ℕ) → IsTrue (test blank) → AllCells test g
      → IsTrue (test (cell_at g r c))
  pub formula : (test : Cell → Bool) (s : Size) (w : ℕ) (f : ℕ → ℕ → Cell)
      → ((r c : ℕ) → 1 ≤ r → r ≤ s.rows → 1 ≤ c → c ≤ w → IsTrue (test (f r c))) → AllCells test (grid_of s w f)

-- a grid on its own size is the same one if no row leaves; what is inside both sizes stays; a sound grid is sound on any size
pub record SizeLaws : Type 0 where
  pub own : (g : Grid) → IsGrid g → grid_on g.size 0 g ≡ g
  pub stays : (s : Size) (off : ℕ) (g : Grid) (r c : ℕ) → 1 ≤ r → r ≤ s.rows → r + off ≤ g.size.rows
      → 1 ≤ c → c ≤ g.width → c ≤ (grid_on s off g).width → cell_at (grid_on s off g) r c ≡ cell_at g (r + off) c
  pub sound : (s : Size) (off : ℕ) (g : Grid) → IsSize s → IsSoundGrid g → IsSoundGrid (grid_on s off g)
