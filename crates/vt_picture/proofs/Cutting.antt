-- The cells of a row, one after another.
use Rattle.std.proofs.Common.{ℕ, ◌-◌, List, ◌==◌, if◌then◌else◌, slice_index_or}
use Rattle.vt_screen.specs.declared.cell.Cell.{Cell}
use Rattle.vt_screen.specs.Cells.{blank}

-- the cell to the left of the one at an index
abbrev pub left_cell : List Cell → ℕ → Cell
left_cell cells i = if i == 0 then blank else slice_index_or cells (i - 1) blank
