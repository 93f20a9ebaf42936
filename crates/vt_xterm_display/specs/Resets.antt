-- Resets, and the screen alignment pattern. (EK-VT220-RM, by the mnemonics, but for what names another source)
use Rattle.std.specs.Prelude.{ℕ, Bool, true, false, not, ◌==◌, ◌&&◌, if◌then◌else◌}
use Rattle.vt_term.specs.State.{display_any, last_column}
use Rattle.vt_term.specs.Modes.{autowrap_mode, column_mode_any, report_form}
use Rattle.vt_term.specs.Resets.{screen_alignment_any, soft_reset_any, conformance_level_any, is_level}
use Rattle.vt_xterm_display.specs.State.{Shown, XtermState, xterm_kind, full_sides, behind}
use Rattle.vt_xterm_display.specs.declared.settings.Shape.TheVariants.{Block}
use Rattle.vt_xterm_display.specs.Pages.{with_settings}

-- DECALN: the left and right margins are full, too (xterm 379)
abbrev pub screen_alignment : XtermState → XtermState
screen_alignment s = record s {
  shown = screen_alignment_any xterm_kind s.shown;
  sides = full_sides (last_column s.shown);
  waits = false;
}

-- the screen is wide, and DECCOLM has no effect
abbrev pub is_window_wide : XtermState → Bool
is_window_wide s = not s.resizes && s.shown.grid.width == s.shown.grid.size.wide

-- RIS: both pages are blank. ?40 stays, and without it so does the width (xterm 379; the alternate page is this profile's)
abbrev pub reset_to_initial_state : XtermState → XtermState
reset_to_initial_state s =
    behind (column_mode_any xterm_kind (is_window_wide s) (display_any xterm_kind s.shown.grid.size)) s.resizes

-- a soft reset leaves DECAWM set (xterm), and resets DECLRMM (VT510 manual) and the cursor's shape (xterm)
abbrev pub without_sides : Shown → XtermState → XtermState
without_sides shown s = record s {
  shown = autowrap_mode true shown;
  sides = full_sides (last_column s.shown);
  bounded = false;
  waits = false;
  settings = record s.settings { shape = Block; blinks = false };
}

-- DECSTR
abbrev pub soft_reset : XtermState → XtermState
soft_reset s = without_sides (soft_reset_any xterm_kind s.shown) s

-- DECSCL
abbrev pub set_conformance_level : ℕ → ℕ → XtermState → XtermState
set_conformance_level p1 p2 s =
    if is_level p1 p2 then without_sides (conformance_level_any xterm_kind p1 p2 s.shown) s else s
