-- The parts of a header, and the index of a brush. No public clause cites them.
use Rattle.std.specs.Prelude.{ℕ, ◌+◌, ◌*◌, ◌==◌, List, [], ◌∷◌, ◌++◌, if◌then◌else◌, decimal, drop}
use Rattle.vt_syntax.specs.Spelling.{spell_events}
use Rattle.vt_screen.specs.declared.cell.Brush.{Brush}
pub use Rattle.vt_screen.specs.Words.{bit, brush_number, cell_word}
use Rattle.vt_paint.specs.Controls.{brush_events}

-- CUP up to its column
unfoldable pub row_part : ℕ → List ℕ
row_part row = 0x1B ∷ 0x5B ∷ (decimal row ++ 0x3B ∷ [])

-- the column of CUP and its final byte, and SGR up to its 0
unfoldable pub column_part : ℕ → List ℕ
column_part col = decimal col ++ 0x48 ∷ 0x1B ∷ 0x5B ∷ 0x30 ∷ []

-- SGR after its 0, and DECSCA
unfoldable pub brush_part : Brush → List ℕ
brush_part brush = drop 3 (spell_events (brush_events brush))

-- the index of a brush among the 32
abbrev pub brush_index : Brush → ℕ
brush_index brush =
    bit brush.rendition.bold + 2 * bit brush.rendition.underline + 4 * bit brush.rendition.blink
    + 8 * bit brush.rendition.reverse + 16 * bit brush.protected

-- the lowest word of a plain glyph in a brush of this number that isn't blank: of a space, or of the character after it
abbrev pub lowest_word : ℕ → ℕ
lowest_word number = 0x1000000 * number + (if number == 0 then 0x21 else 0x20)
