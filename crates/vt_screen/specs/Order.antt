-- The order in which the rows of the screen are stored. No public clause cites it.
use Rattle.std.specs.Prelude.{ℕ, ◌+◌, ◌-◌, ◌*◌, List, map, slice_index, slice_index_or}
use Rattle.std.specs.List.{range_with_len}
use Rattle.std.specs.List.Sorted.{IsPermutation}
use Rattle.vt_screen.specs.declared.cell.Cell.{Cell}
use Rattle.vt_screen.specs.Cells.{blank}
use Rattle.vt_screen.specs.declared.size.Size.{Size}
use Rattle.vt_screen.specs.Sizes.{stride, IsSize}

-- the indices at which rows may begin
abbrev pub starts : Size → List ℕ
starts size = map (λ number. number * stride size) (range_with_len 0 size.rows)

-- a size, and the indices at which the rows begin
pub record Order : Type 0 where
  pub size : Size
  pub rows : List ℕ

-- a size that a screen may have, and each of its starts once
pub record IsOrder (order : Order) : Type 0 where
  pub size : IsSize order.size
  pub rows : IsPermutation (starts order.size) order.rows

-- the index at which the cells of a row begin
abbrev pub start_of : Order → ℕ → ℕ
start_of order row = slice_index order.rows (row - 1)

-- the cell that is kept for a place
abbrev pub stored_or : {C : Type 0} → C → Order → List C → ℕ → ℕ → C
stored_or z order cells r c = slice_index_or cells (start_of order r + (c - 1)) z

abbrev pub stored : Order → List Cell → ℕ → ℕ → Cell
stored = stored_or blank
