-- Tab stops. (EK-VT220-RM, chapter 4: HT, HTS and TBC)
use Rattle.std.specs.Prelude.{ℕ, ◌+◌, ◌-◌, List, Bool, true, false, ◌==◌, if◌then◌else◌, find, unwrap_or, slice_set, length}
use Rattle.std.specs.List.{range_with_len}
use Rattle.vt_term.specs.State.{DisplayOf, last_column, at_place, has_stop_at, stops_where}

-- the next stop right of a column, or else the last column
abbrev pub next_stop_of : List Bool → ℕ → ℕ → ℕ
next_stop_of stops col last = unwrap_or (find (λ c. has_stop_at stops c) (range_with_len (col + 1) (last - col))) last

-- HT: it resets the wrap flag (ECMA-48 8.3.60; the flag is this profile's)
abbrev pub horizontal_tab : {C B : Type 0} → DisplayOf C B → DisplayOf C B
horizontal_tab s = record s { cursor = at_place s.cursor.row (next_stop_of s.stops s.cursor.col (last_column s)) }

-- HTS (ECMA-48 8.3.62)
abbrev pub set_tab : {C B : Type 0} → DisplayOf C B → DisplayOf C B
set_tab s = record s { stops = slice_set s.stops (s.cursor.col - 1) true }

-- no stop in any of these columns
unfoldable pub no_stops : ℕ → List Bool
no_stops columns = stops_where columns (λ c. false)

-- TBC: 0 clears the stop at the cursor's column, 3 all stops (ECMA-48 8.3.154)
abbrev pub clear_tabs : {C B : Type 0} → ℕ → DisplayOf C B → DisplayOf C B
clear_tabs p s =
    if p == 0 then record s { stops = slice_set s.stops (s.cursor.col - 1) false } else (
    if p == 3 then record s { stops = no_stops (length s.stops) } else s)
