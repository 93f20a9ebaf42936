-- Tabs. CBT resets the wrap flag, and HT and CHT have no effect while it is set. (ECMA-48; the flag under HT and CHT is xterm 379's)
use Rattle.std.specs.Prelude.{ℕ, List, Bool, min, nat_lt, ◌&&◌, if◌then◌else◌}
use Rattle.std.proofs.Common.{zero, suc}
use Rattle.vt_term.specs.State.{Display, last_column, at_place, has_stop_at}
use Rattle.vt_term.specs.Tabs.{horizontal_tab}
use Rattle.vt_xterm.specs.Repeating.{times}

-- the nearest stop left of a column, or else column 1
abbrev pub stop_before : List Bool → ℕ → ℕ
stop_before stops zero = 1
stop_before stops (suc c) = if nat_lt 1 c && has_stop_at stops c then c else stop_before stops c

abbrev pub back_tab : Display → Display
back_tab s = record s { cursor = at_place s.cursor.row (stop_before s.stops s.cursor.col) }

-- HT (ECMA-48 8.3.60)
abbrev pub tab : Display → Display
tab s = if s.cursor.wrap then s else horizontal_tab s

-- CHT: n times HT, which more often than there are columns changes nothing (ECMA-48 8.3.10)
abbrev pub cursor_forward_tabulation : ℕ → Display → Display
cursor_forward_tabulation n s = times (min n (last_column s)) tab s

-- CBT: n times to the stop before (ECMA-48 8.3.7)
abbrev pub cursor_backward_tabulation : ℕ → Display → Display
cursor_backward_tabulation n s = times (min n (last_column s)) back_tab s
