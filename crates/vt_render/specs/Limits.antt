-- The most bytes of a screen as text with SGR sequences, and of a picture. (this profile)
use Rattle.std.specs.Prelude.{ℕ, ◌+◌, ◌*◌}
use Rattle.vt_screen.specs.declared.size.Size.{Size}

-- the limit of a row as text: 61 for a look and 12 for three characters for each cell, 61 for the look at its end, and LF
unfoldable pub shown_row_limit : Size → ℕ
shown_row_limit size = 73 * size.wide + 62

abbrev pub show_limit : Size → ℕ
show_limit size = size.rows * shown_row_limit size

-- the limit of a row of the text alternative: three characters for each cell, and LF
unfoldable pub alternative_row_limit : Size → ℕ
alternative_row_limit size = 15 * size.wide + 1

-- the limit of a row of a picture: 272 for the elements of a run and three characters for each cell
unfoldable pub picture_row_limit : Size → ℕ
picture_row_limit size = 287 * size.wide

-- the limit of a picture: those of its rows, and 3000 for everything else
abbrev pub picture_limit : Size → ℕ
picture_limit size = size.rows * alternative_row_limit size + size.rows * picture_row_limit size + 3000
