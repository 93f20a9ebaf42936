-- The screen as text with its attributes, for modern terminals. (this profile; SGR: ECMA-48 8.3.117)
use Rattle.std.specs.Prelude.{ℕ, List, [], ◌∷◌, ◌++◌, not, codes, flat_map, encode_utf8}
use Rattle.std.specs.List.{range_with_len}
use Rattle.vt_screen.specs.declared.cell.Rendition.{Rendition}
use Rattle.vt_screen.specs.declared.cell.Cell.{Cell}
use Rattle.vt_screen.specs.Cells.{plain}
use Rattle.vt_screen.specs.Grid.{Grid, row_of}
use Rattle.vt_term.specs.State.{State}
use Rattle.vt_screen.specs.Same.{when, same_rendition}
use Rattle.vt_picture.specs.Looks.{trimmed}

-- SGR: 0, and then the attributes that are set
abbrev pub rendition_sequence : Rendition → List ℕ
rendition_sequence r =
    (0x1B ∷ codes "[0") ++ when r.bold (codes ";1") ++ when r.underline (codes ";4")
    ++ when r.blink (codes ";5") ++ when r.reverse (codes ";7") ++ codes "m"

-- SGR if the attributes change
abbrev pub change : Rendition → Rendition → List ℕ
change before after = when (not (same_rendition before after)) (rendition_sequence after)

-- cells after some attributes: each has its attributes if they change, and its character; at the end the attributes are
-- reset
abbrev pub shown_behind : Rendition → List Cell → List ℕ
shown_behind before [] = change before plain
shown_behind before (cell ∷ cells) =
    change before cell.rendition ++ encode_utf8 cell.glyph ++ shown_behind cell.rendition cells

-- a row without the blank cells at its end, and LF
abbrev pub shown_line : List Cell → List ℕ
shown_line cells = shown_behind plain (trimmed cells) ++ 0x0A ∷ []

-- the lines of the first rows
unfoldable pub shown_lines : ℕ → Grid → List ℕ
shown_lines count g = flat_map (λ r. shown_line (row_of g r)) (range_with_len 1 count)

abbrev pub show : State → List ℕ
show s = shown_lines s.display.grid.size.rows s.display.grid
