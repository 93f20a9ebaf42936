-- The looks of the cells of two screens.
use Rattle.std.specs.Prelude.{List, Bool, not, ◌&&◌, map, if◌then◌else◌}
use Rattle.vt_screen.specs.declared.cell.Cell.{Cell}
use Rattle.vt_screen.specs.Cells.{blank}
use Rattle.vt_screen.specs.Same.{same_bool}
use Rattle.vt_picture.specs.Draw.{shown_cell}
use Rattle.vt_picture.specs.declared.drawing.looks.Looks.{Looks}

-- a cell of the former screen as it is shown: after an erase each is blank
abbrev pub former_cell : Looks → Cell → Cell
former_cell looks cell = if looks.erased then blank else shown_cell looks.was_reversed cell

abbrev pub latter_cell : Looks → Cell → Cell
latter_cell looks cell = shown_cell looks.is_reversed cell

-- equal cells are shown as before
abbrev pub keeps : Looks → Bool
keeps looks = not looks.erased && same_bool looks.was_reversed looks.is_reversed

abbrev pub former : Looks → List Cell → List Cell
former looks cells = map (λ c. former_cell looks c) cells

abbrev pub latter : Looks → List Cell → List Cell
latter looks cells = map (λ c. latter_cell looks c) cells
