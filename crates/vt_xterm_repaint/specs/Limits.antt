-- The most bytes of an xterm's repaint of a screen of a size. (this profile)
use Rattle.std.specs.Prelude.{ℕ, ◌+◌, ◌*◌}
use Rattle.vt_screen.specs.declared.size.Size.{Size}

-- the limit of a row: CUP and a look, and a look and a character with its marks for each cell of the wide screen
unfoldable pub row_limit : Size → ℕ
row_limit size = 78 * size.wide + 76

-- the limit of a page: that of a row for each row, and 217 for its width, what is saved on it, the sets, the look and CUP
unfoldable pub page_limit : Size → ℕ
page_limit size = size.rows * row_limit size + 217

-- the limit of a repaint: that of both pages, 10 for each tab stop, and 410 for everything else
abbrev pub repaint_limit : Size → ℕ
repaint_limit size = 2 * page_limit size + 10 * size.wide + 410
