-- The most bytes of the lines that UTF-8 scrolls off, on a screen of a size. (this profile)
use Rattle.std.specs.Prelude.{ℕ, ◌*◌}
use Rattle.vt_screen.specs.declared.size.Size.{Size}
use Rattle.vt_term.specs.Text.{row_text_limit}

-- the limit for a character: a line for each of the 22 bytes that it is translated to at most
abbrev pub lines_limit : Size → ℕ
lines_limit size = 22 * row_text_limit size

-- the limit for a byte: the lines of U+FFFD, in place of what is ill-formed, and of a character
abbrev pub utf8_lines_limit : Size → ℕ
utf8_lines_limit size = 44 * row_text_limit size
