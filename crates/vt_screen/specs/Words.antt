-- A brush and a cell as one number each. Among the public clauses only those of `Brush::number` and `Cell::word` cite
-- them. (this profile)
use Rattle.std.specs.Prelude.{ℕ, ◌+◌, ◌*◌, Bool, if◌then◌else◌}
use Rattle.vt_glyph.specs.Encoding.{encoding_of}
use Rattle.vt_screen.specs.declared.cell.Brush.{Brush}
use Rattle.vt_screen.specs.declared.cell.Cell.{Cell}
use Rattle.vt_screen.specs.Cells.{brush_of}

abbrev pub bit : Bool → ℕ
bit set = if set then 1 else 0

-- a byte for each attribute, and one for the protection
abbrev pub brush_number : Brush → ℕ
brush_number brush =
    bit brush.rendition.bold + 0x100 * bit brush.rendition.underline + 0x10000 * bit brush.rendition.blink
    + 0x1000000 * bit brush.rendition.reverse + 0x100000000 * bit brush.protected

-- three bytes for the glyph, and above them those of the brush
abbrev pub cell_word : Cell → ℕ
cell_word cell = encoding_of cell.glyph + 0x1000000 * brush_number (brush_of cell)
