-- The number of cells of a character beyond ASCII: none, one or two. (The widths of the crate unicode_width, by Unicode
-- Standard Annex 11, but as terminals have it: U+00AD has a cell, and no character has three.)
use Rattle.std.specs.Prelude.{ℕ, false, ◌==◌, min, unwrap_or, if◌then◌else◌}
use Rattle.unicode_width.specs.Width.{char_width}

-- a control, U+0080 to U+009F, has no width, and no cell
unfoldable pub cells : ℕ → ℕ
cells c = if c == 0xAD then 1 else min 2 (unwrap_or (char_width false c) 0)
