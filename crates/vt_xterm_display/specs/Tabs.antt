-- Tabs. (ECMA-48: HT, CHT, CBT; between margins and under a pending wrap, xterm 379)
use Rattle.std.specs.Prelude.{ℕ, List, Bool, min, max, ◌||◌, ◌&&◌, nat_lt, if◌then◌else◌}
use Rattle.std.proofs.Common.{zero, suc}
use Rattle.vt_term.specs.State.{at_place, last_column, has_stop_at}
use Rattle.vt_term.specs.Tabs.{next_stop_of}
use Rattle.vt_xterm_display.specs.declared.sides.Sides.{Sides}
use Rattle.vt_xterm_display.specs.State.{Shown, XtermState, moved}
use Rattle.vt_xterm_display.specs.Whole.{parts_none}

-- a function so many times
abbrev pub times : ℕ → (XtermState → XtermState) → XtermState → XtermState
times zero f s = s
times (suc n) f s = f (times n f s)

-- HT: to the next stop and not past the right margin, to which it goes back from right of it (xterm 379)
abbrev pub horizontal_tab : Sides → Shown → Shown
horizontal_tab m s =
    record s { cursor = at_place s.cursor.row (min (next_stop_of s.stops s.cursor.col (last_column s)) m.right) }

-- a wrap is pending
abbrev pub is_pending : XtermState → Bool
is_pending s = s.waits || s.shown.cursor.wrap

-- HT and CHT under a pending wrap: it is at the right margin then (xterm 379), unless that margin parts a character there (this profile)
abbrev pub waiting : XtermState → XtermState
waiting s =
    if nat_lt s.sides.right (last_column s.shown)
    then record s { shown = record s.shown { cursor = at_place s.shown.cursor.row s.sides.right }; waits = parts_none s.shown.grid s.shown.cursor.row s.sides.right } else s

-- CHT: n times HT, which more often than there are columns changes nothing
abbrev pub cursor_forward_tabulation : ℕ → XtermState → XtermState
cursor_forward_tabulation n s =
    if is_pending s then waiting s else times (min n (last_column s.shown)) (moved horizontal_tab) s

-- the nearest stop left of a column, or else column 1
abbrev pub stop_before : List Bool → ℕ → ℕ
stop_before stops zero = 1
stop_before stops (suc c) = if nat_lt 1 c && has_stop_at stops c then c else stop_before stops c

-- to the stop before, and under DECOM not left of the left margin (xterm 379)
abbrev pub back_tab : Sides → Shown → Shown
back_tab m s = record s {
  cursor = at_place s.cursor.row (max (stop_before s.stops s.cursor.col) (if s.modes.decom then m.left else 1));
}

-- CBT: n times to the stop before
abbrev pub cursor_backward_tabulation : ℕ → XtermState → XtermState
cursor_backward_tabulation n s = times (min n (last_column s.shown)) (moved back_tab) s
