-- The looks of cells. (this profile)
use Rattle.std.specs.Prelude.{List, [], ◌∷◌, Bool, ◌==◌, ◌&&◌, if◌then◌else◌}
use Rattle.vt_glyph.specs.Tables.{space}
use Rattle.vt_screen.specs.declared.cell.Cell.{Cell}
use Rattle.vt_screen.specs.Cells.{plain}
use Rattle.vt_screen.specs.Same.{same_rendition}

-- a space without attributes, protected or not
abbrev pub is_blank : Cell → Bool
is_blank cell = cell.glyph == space && same_rendition cell.rendition plain

-- a cell before others, unless it is blank and nothing is left of them
abbrev pub before_trimmed : Cell → List Cell → List Cell
before_trimmed cell [] = if is_blank cell then [] else cell ∷ []
before_trimmed cell (next ∷ rest) = cell ∷ next ∷ rest

-- the blank cells at the end left out
abbrev pub trimmed : List Cell → List Cell
trimmed [] = []
trimmed (cell ∷ cells) = before_trimmed cell (trimmed cells)
