-- The most bytes of a screen with its attributes, and of a picture. (this profile)
use Rattle.std.specs.Prelude.{ℕ, ◌+◌, ◌*◌}
use Rattle.vt_screen.specs.declared.size.Size.{Size}
use Rattle.vt_paint.specs.Limits.{row_digits}

-- the limit of a row with its attributes: twelve for attributes and four for a character for each cell of the wide
-- screen. Twelve are for the attributes at its end, and one for LF
abbrev pub shown_line_limit : Size → ℕ
shown_line_limit size = 16 * size.wide + 13

abbrev pub show_limit : Size → ℕ
show_limit size = size.rows * shown_line_limit size

-- the limit of the text alternative: five for each cell, and LF
abbrev pub alternative_limit : Size → ℕ
alternative_limit size = size.rows * (5 * size.wide + 1)

-- the limit of the rows of a picture: 203 for each cell
abbrev pub rows_limit : Size → ℕ
rows_limit size = size.rows * (203 * size.wide)

-- the limit of a picture: the text alternative, the rows, and 1000 for everything else
abbrev pub picture_limit : Size → ℕ
picture_limit size = alternative_limit size + rows_limit size + 1000

-- the limit of a place of a drawing: CUP, twelve for the attributes and four for the character
abbrev pub place_limit : ℕ → ℕ
place_limit rows = 23 + row_digits rows

-- the limit of a row of a drawing: that of a place, for each cell of the wide screen
unfoldable pub places_limit : Size → ℕ
places_limit size = place_limit size.rows * size.wide

-- the limit of a drawing: that of a row for each row, and 70 for everything else
abbrev pub draw_limit : Size → ℕ
draw_limit size = size.rows * places_limit size + 70
