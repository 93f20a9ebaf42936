-- The code of the glyph that is shown for a character, by the tables of the code.
use Rattle.std.specs.Prelude.{◌≡◌, ◌≤◌, ℕ, ◌+◌, ◌*◌, ◌/◌, ◌%◌, ◌&&◌, nat_lt, nat_le, if◌then◌else◌}
use Rattle.vt_glyph.specs.Encoding.{encoded_glyph, IsEncoding}
use Rattle.vt_utf8.specs.Cells.{cells}
use Rattle.vt_utf8.specs.declared.coded.GlyphCode.{GlyphCode}
use Rattle.vt_utf8.specs.Similar.{shown, in_rows, in_chart, ascii_of_fullwidth}
use Rattle.vt_utf8.specs.declared.similar.TheConstants.{SUBSTITUTE, LATIN, LINES, LETTERS, SIGN_BLOCKS, SIGNS}

-- the code for a character from U+2000 to U+30FF, by the sixteen characters to which it belongs
unfoldable pub sign_of : ℕ → ℕ
sign_of c = in_chart SUBSTITUTE SIGNS 0 (in_chart SUBSTITUTE SIGN_BLOCKS 0x200 (c / 16) * 16 + c % 16)

abbrev pub code_by : ℕ → ℕ
code_by c =
    if nat_lt c 0x180 then in_chart SUBSTITUTE LATIN 0xA0 c else (
    if nat_lt c 0x2000 then in_rows SUBSTITUTE LETTERS c else (
    if nat_le 0x2500 c && nat_le c 0x257F then in_chart SUBSTITUTE LINES 0x2500 c else (
    if nat_lt c 0x3100 then sign_of c else (
    if nat_le 0xFF01 c && nat_le c 0xFF5E then ascii_of_fullwidth c else SUBSTITUTE))))

-- the code of the glyph that is shown for a character, and its cells
pub record IsCoded (c : ℕ) (found : GlyphCode) : Type 0 where
  pub cells : cells c ≡ found.cells
  pub some : 1 ≤ found.cells
  pub few : found.cells ≤ 2
  pub glyph : encoded_glyph found.code ≡ shown c
  pub code : IsEncoding found.code
