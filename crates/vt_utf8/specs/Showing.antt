-- The glyph that is shown for any character, if it has a cell. (this profile)
use Rattle.std.specs.Prelude.{ℕ, Option, Some, None, ◌==◌, ◌&&◌, nat_lt, nat_le, if◌then◌else◌}
use Rattle.vt_utf8.specs.Similar.{shown}
use Rattle.vt_utf8.specs.Cells.{cells}

-- an ASCII character is its own glyph; a control has none
abbrev pub shown_as : ℕ → Option ℕ
shown_as c =
    if nat_lt c 0x80 then (if nat_le 0x20 c && nat_le c 0x7E then Some c else None)
    else (if cells c == 0 then None else Some (shown c))
