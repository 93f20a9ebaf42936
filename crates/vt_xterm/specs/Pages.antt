-- The two pages, the left and right margins, and the private modes that change them. (xterm's control sequences: DECSET
-- 3, 6, 7, 40, 47, 69, 1047, 1048, 1049, 2004)
use Rattle.std.specs.Prelude.{ℕ, List, [], ◌∷◌, Bool, true, false, not, ◌==◌, ◌&&◌, unwrap_or, fold, is_some, Option, Some, None}
use Rattle.std.specs.Prelude.{if◌then◌else◌}
use Rattle.vt_syntax.specs.declared.held.Held.{Held}
use Rattle.vt_glyph.specs.LookUp.{look_up}
use Rattle.vt_screen.specs.declared.size.Size.{Size}
use Rattle.vt_screen.specs.Sizes.{vt220_size}
use Rattle.vt_term.specs.State.{Display, State, display_of, last_column}
use Rattle.vt_term.specs.Pages.{PageState, blank_page, blanked, fitted, page_of, with_page}
use Rattle.vt_term.specs.Editing.{erase_in_display}
use Rattle.vt_term.specs.Saving.{save_cursor, restore_cursor}
use Rattle.vt_term.specs.Modes.{private_modes, with_mode, column_mode, origin_mode, autowrap_mode}
use Rattle.vt_xterm.specs.declared.sides.Sides.{Sides}
use Rattle.vt_xterm.specs.Sides.{full_sides, are_sides, sides_of, bounds}
use Rattle.vt_xterm.specs.Sides as between

-- the page that isn't shown; whether the alternate page is the one that is shown; whether DECCOLM has an effect;
-- whether pasted text is wanted in brackets; the left and right margins, if DECLRMM is set
pub record PagesState : Type 0 where
  pub other : PageState
  pub alternate : Bool
  pub resizes : Bool
  pub brackets : Bool
  pub sides : Option Sides

abbrev pub pages_of : Size → PagesState
pages_of size = record { other = blank_page size; alternate = false; resizes = false; brackets = false; sides = None }

-- the pages of a VT220's size at power-up
abbrev pub pages_at_power_up : PagesState
pages_at_power_up = pages_of vt220_size

-- the display, and the pages behind it: what events change
pub record Screens : Type 0 where
  pub display : Display
  pub pages : PagesState

-- a function of the display alone
abbrev pub on_display : (Display → Display) → Screens → Screens
on_display f s = record s { display = f s.display }

-- ---- left and right margins

-- other margins, or none
abbrev pub sided : Option Sides → Screens → Screens
sided sides s = record s { pages = record s.pages { sides = sides } }

abbrev pub with_sides : Sides → Screens → Screens
with_sides m = sided (Some m)

-- what a change makes of the margins, if there are any
abbrev pub change_sides : (Sides → Sides) → Option Sides → Option Sides
change_sides f None = None
change_sides f (Some m) = Some (f m)

-- all columns of the screen, if DECLRMM is set
abbrev pub with_full_sides : Screens → Screens
with_full_sides s = sided (change_sides (λ m. full_sides (last_column s.display)) s.pages.sides) s

-- the margins that bound functions
abbrev pub bounds_of : Screens → Option Sides
bounds_of s = bounds (last_column s.display) s.pages.sides

-- some margins bound functions
abbrev pub is_bounded : Screens → Bool
is_bounded s = is_some (bounds_of s)

-- no wrap is pending in the right margin's column
abbrev pub unwrapped : Screens → Screens
unwrapped s = sided (change_sides (λ m. record m { wrap = false }) s.pages.sides) s

-- DECRC: if DECOM is restored, the cursor is brought between the margins; a pending wrap of a right margin isn't
-- restored
abbrev pub restored : Option Sides → Display → Display
restored None s = restore_cursor s
restored (Some m) s = between.brought m (restore_cursor s)

abbrev pub restore_screens : Screens → Screens
restore_screens s = unwrapped (on_display (restored (bounds_of s)) s)

-- DECLRMM: if it is set, the margins are full, unless there are margins already; if it is reset, there are none
-- (VT510 manual; xterm 379)
abbrev pub sides_set : Display → Option Sides → Option Sides
sides_set s None = Some (full_sides (last_column s))
sides_set s (Some m) = Some m

abbrev pub side_mode : Bool → Screens → Screens
side_mode on s = sided (if on then sides_set s.display s.pages.sides else None) s

-- DECOM: home is between the margins
abbrev pub sided_origin_mode : Bool → Option Sides → Screens → Screens
sided_origin_mode on None = on_display (origin_mode on)
sided_origin_mode on (Some m) = on_display (between.origin_mode on m)

abbrev pub origin_mode_between : Bool → Screens → Screens
origin_mode_between on s = unwrapped (sided_origin_mode on (bounds_of s) s)

-- DECAWM: without it no wrap is pending
abbrev pub autowrap_mode_between : Bool → Screens → Screens
autowrap_mode_between on s = if on then on_display (autowrap_mode true) s else unwrapped (on_display (autowrap_mode false) s)

-- DECSLRM: the cursor goes home; parameters that aren't margins have no effect (VT510 manual)
abbrev pub set_sides : ℕ → ℕ → Screens → Screens
set_sides p1 p2 s =
    if are_sides (last_column s.display) p1 p2
    then with_sides (sides_of (last_column s.display) p1 p2)
    (on_display (between.home (sides_of (last_column s.display) p1 p2)) s) else s

-- ---- pages

-- the other page is shown, in the width of the screen; everything else stays
abbrev pub exchanged : Bool → Screens → Screens
exchanged alternate s = record {
  display = with_page (fitted s.display.grid.width s.pages.other) s.display;
  pages = record s.pages { other = page_of s.display; alternate = alternate };
}

-- ?47: the alternate page is shown, or the main one
abbrev pub show_page : Bool → Screens → Screens
show_page alternate s =
    if s.pages.alternate then (if alternate then s else exchanged false s)
    else (if alternate then exchanged true s else s)

-- the page that isn't shown becomes blank; what was saved on it stays
abbrev pub with_blank : Screens → Screens
with_blank s = record s { pages = record s.pages { other = blanked s.pages.other } }

-- ?1047: the alternate page is shown, or the main one; the alternate page is left blank
abbrev pub show_or_clear : Bool → Screens → Screens
show_or_clear alternate s =
    if alternate then show_page true s else (if s.pages.alternate then with_blank (show_page false s) else s)

-- ?1048: DECSC and DECRC
abbrev pub save_or_restore : Bool → Screens → Screens
save_or_restore save s = if save then on_display save_cursor s else restore_screens s

-- ?1049: DECSC, the alternate page, ED 2; and back the main page, DECRC
abbrev pub show_and_save : Bool → Screens → Screens
show_and_save alternate s =
    if alternate then unwrapped (on_display (erase_in_display false 2) (show_page true (on_display save_cursor s)))
    else restore_screens (show_page false s)

-- ?40: whether DECCOLM has an effect
abbrev pub allow_column_mode : Bool → Screens → Screens
allow_column_mode on s = record s { pages = record s.pages { resizes = on } }

-- ?2004: whether pasted text is wanted in brackets
abbrev pub bracket_pastes : Bool → Screens → Screens
bracket_pastes on s = record s { pages = record s.pages { brackets = on } }

-- ?3: DECCOLM, if it has an effect
abbrev pub allowed_column_mode : Bool → Screens → Screens
allowed_column_mode wide s = if s.pages.resizes then with_full_sides (on_display (column_mode wide) s) else s

-- the private modes that differ from those of a VT220, or that it lacks
abbrev pub page_modes : List (ℕ × (Bool → Screens → Screens))
page_modes =
    (3, allowed_column_mode)  -- DECCOLM
    ∷ (6, origin_mode_between)  -- DECOM
    ∷ (7, autowrap_mode_between)  -- DECAWM
    ∷ (40, allow_column_mode)  -- xterm: DECCOLM is allowed
    ∷ (47, show_page)  -- xterm: the alternate screen buffer
    ∷ (69, side_mode)  -- DECLRMM
    ∷ (1047, show_or_clear)  -- xterm: the alternate screen buffer, cleared
    ∷ (1048, save_or_restore)  -- xterm: the saved cursor
    ∷ (1049, show_and_save)  -- xterm: the saved cursor, and the alternate screen buffer
    ∷ (2004, bracket_pastes)  -- xterm: bracketed paste
    ∷ []

-- one mode; what isn't in this table is a VT220's
unfoldable pub with_page_mode : Bool → ℕ → Screens → Screens
with_page_mode on p = unwrap_or (look_up page_modes p) (λ on. on_display (with_mode private_modes on p)) on

-- SM and RM of private modes: each parameter in order (DECSET and DECRST)
abbrev pub change_page_modes : Bool → List ℕ → Screens → Screens
change_page_modes on params s = fold (λ s p. with_page_mode on p s) s params

-- the screen is wide, and DECCOLM has no effect
abbrev pub is_window_wide : Screens → Bool
is_window_wide s = not s.pages.resizes && s.display.grid.width == s.display.grid.size.wide

-- RIS: as on a VT220, and both pages are blank. ?40 stays, and without it so does the width (xterm 379; that the
-- alternate page is blank is this profile's)
abbrev pub reset_to_initial_state : Screens → Screens
reset_to_initial_state s = record {
  display = column_mode (is_window_wide s) (display_of s.display.grid.size);
  pages = record (pages_of s.display.grid.size) { resizes = s.pages.resizes };
}

-- ---- a terminal's state and the pages, for contracts

abbrev pub screens : State → PagesState → Screens
screens s pages = record { display = s.display; pages = pages }

-- the display of the screens, and what is held
abbrev pub shown_by : Screens → Held → State
shown_by s held = record { display = s.display; held = held }
