-- Scrolling between the margins, by functions that a VT220 lacks. The cursor stays, with its wrap flag. (ECMA-48: SU
-- and SD; that the flag stays is xterm's)
use Rattle.std.specs.Prelude.{ℕ, List, length, ◌==◌, if◌then◌else◌}
use Rattle.vt_screen.specs.Grid.{scroll_up, scroll_down}
use Rattle.vt_term.specs.State.{Display}
use Rattle.vt_term.specs.Parameters.{count}

-- SU: the rows between the margins move up by n (ECMA-48 8.3.147)
abbrev pub rows_up : ℕ → Display → Display
rows_up n s = record s { grid = scroll_up s.grid s.margins.top s.margins.bottom n }

-- SD: the rows between the margins move down by n (ECMA-48 8.3.113)
abbrev pub rows_down : ℕ → Display → Display
rows_down n s = record s { grid = scroll_down s.grid s.margins.top s.margins.bottom n }

-- SD by `T`: with one parameter, since more of them ask for another function (xterm's control sequences)
abbrev pub rows_down_by : List ℕ → Display → Display
rows_down_by params s = if length params == 1 then rows_down (count params) s else s
