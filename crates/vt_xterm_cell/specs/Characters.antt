-- The characters and the marks that a cell may have. (docs/XTERM.md: The cell, What comes in, Marks)
use Rattle.std.specs.Prelude.{ℕ, Bool, true, false, not, ◌==◌, ◌&&◌, ◌||◌, nat_le, nat_lt, if◌then◌else◌}
use lib.Utf8.{scalar}
use Rattle.vt_screen.specs.Grid.{is_within}
use Rattle.vt_utf8.specs.Cells.{cells}

-- characters of format: joiners, directional marks and others
abbrev pub is_format : ℕ → Bool
is_format c =
    is_within 0x200B 0x200F c || (is_within 0x202A 0x202E c || (is_within 0x2060 0x2064 c || (is_within 0x2066 0x206F c
    || (c == 0xFEFF || is_within 0xFFF9 0xFFFB c))))

-- a mark: a character without a width beyond U+02FF, but for those of format
unfoldable pub is_mark : ℕ → Bool
is_mark c = cells c == 0 && (nat_lt 0x2FF c && not (is_format c))

-- a character that is written into so many columns: of ASCII, or from U+00A0 on by its width
unfoldable pub has_columns : ℕ → Bool → Bool
has_columns c wide =
    (is_within 0x20 0x7E c && not wide) || (nat_le 0xA0 c && (scalar c && cells c == (if wide then 2 else 1)))

-- a mark of a cell; 0 is none
unfoldable pub is_mark_or_none : ℕ → Bool
is_mark_or_none m = m == 0 || (scalar m && is_mark m)

-- the marks of a cell: none, the first one, or both
abbrev pub are_marks : ℕ → ℕ → Bool
are_marks mark other = is_mark_or_none mark && (is_mark_or_none other && (not (mark == 0) || other == 0))

-- the second cell of a wide character, which has nothing
abbrev pub is_empty : ℕ → ℕ → ℕ → Bool → Bool
is_empty character mark other wide = (character == 0 && not wide) && (mark == 0 && other == 0)

-- what a cell can have, so that it can be written again: nothing, or a character and its marks
unfoldable pub is_shown : ℕ → ℕ → ℕ → Bool → Bool
is_shown character mark other wide =
    is_empty character mark other wide || (has_columns character wide && are_marks mark other)
