-- The attributes of a cell as a number, and a cell without its protection as one. No public clause cites them.
use Rattle.std.specs.Prelude.{ℕ, ◌+◌, ◌*◌}
use Rattle.vt_glyph.specs.Encoding.{encoding_of}
use Rattle.vt_screen.specs.declared.cell.Rendition.{Rendition}
use Rattle.vt_screen.specs.declared.cell.Cell.{Cell}
use Rattle.vt_screen.specs.Words.{bit}

-- a byte for each attribute
abbrev pub look_number : Rendition → ℕ
look_number look =
    bit look.bold + 0x100 * bit look.underline + 0x10000 * bit look.blink + 0x1000000 * bit look.reverse

-- three bytes for the glyph, and above them those of the attributes
abbrev pub look_word : Cell → ℕ
look_word cell = encoding_of cell.glyph + 0x1000000 * look_number cell.rendition

-- the word of a space with these attributes
abbrev pub space_word : Rendition → ℕ
space_word look = 0x20 + 0x1000000 * look_number look
