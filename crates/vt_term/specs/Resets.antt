-- Resets, and the screen alignment pattern. (EK-VT220-RM, chapter 4, by the mnemonics; the list of the soft reset is
-- this profile's)
use Rattle.std.specs.Prelude.{ℕ, Bool, true, false, Option, Some, None, is_some, ◌==◌, ◌&&◌, ◌||◌, if◌then◌else◌}
use Rattle.vt_glyph.specs.Invocation.{sets_at_power_up}
use Rattle.vt_screen.specs.Grid.{fill_any}
use Rattle.vt_term.specs.State.{DisplayOf, Display, margins_of, saved_any, display_any}
use Rattle.vt_term.specs.Kinds.{KindOf}
use Rattle.vt_term.specs.Rendition.{vt220_kind}
use Rattle.vt_term.specs.Moving.{home}
use Rattle.vt_term.specs.Modes.{report_form}

-- DECALN: `E` everywhere, without attributes and unprotected; full margins, home
abbrev pub screen_alignment_any : {C B : Type 0} → KindOf C B → DisplayOf C B → DisplayOf C B
screen_alignment_any k s = home (record s {
  grid = fill_any s.grid (k.own.written k.own.plain 0x45);
  margins = margins_of s.grid.size;
})

-- RIS (ECMA-48 8.3.105)
abbrev pub reset_any : {C B : Type 0} → KindOf C B → DisplayOf C B → DisplayOf C B
reset_any k s = display_any k s.grid.size

-- DECSTR. Everything that isn't named here is left: the place, the cells, the stops, SRM, LNM, DECSCLM, DECSCNM, DECARM
-- and the form of reports
abbrev pub soft_reset_any : {C B : Type 0} → KindOf C B → DisplayOf C B → DisplayOf C B
soft_reset_any k s = record s {
  cursor = record s.cursor { wrap = false };
  brush = k.own.plain;
  sets = sets_at_power_up;
  margins = margins_of s.grid.size;
  modes = record s.modes {
    dectcem = true;
    irm = false;
    decom = false;
    decawm = false;
    kam = false;
    decckm = false;
    keypad_application = false;
  };
  saved = saved_any k;
}

-- whether reports become 8-bit by DECSCL: 61 asks for 7-bit ones; 62 for 8-bit ones, or 7-bit ones with a second
-- parameter 1
abbrev pub asked_form : ℕ → ℕ → Option Bool
asked_form p1 p2 =
    if p1 == 61 || p1 == 62 && p2 == 1 then Some false else (
    if p1 == 62 && (p2 == 0 || p2 == 2) then Some true else None)

-- the values that DECSCL takes
abbrev pub is_level : ℕ → ℕ → Bool
is_level p1 p2 = is_some (asked_form p1 p2)

abbrev pub soft_reset_to_any : {C B : Type 0} → KindOf C B → Option Bool → DisplayOf C B → DisplayOf C B
soft_reset_to_any k None s = s
soft_reset_to_any k (Some eight) s = report_form eight (soft_reset_any k s)

-- DECSCL: a soft reset, and then the form of reports; other values have no effect
abbrev pub conformance_level_any : {C B : Type 0} → KindOf C B → ℕ → ℕ → DisplayOf C B → DisplayOf C B
conformance_level_any k p1 p2 s = soft_reset_to_any k (asked_form p1 p2) s

-- ---- on a VT220

abbrev pub screen_alignment : Display → Display
screen_alignment s = screen_alignment_any vt220_kind s

abbrev pub reset_to_initial_state : Display → Display
reset_to_initial_state s = reset_any vt220_kind s

abbrev pub soft_reset : Display → Display
soft_reset s = soft_reset_any vt220_kind s

abbrev pub soft_reset_to : Option Bool → Display → Display
soft_reset_to form s = soft_reset_to_any vt220_kind form s

abbrev pub set_conformance_level : ℕ → ℕ → Display → Display
set_conformance_level p1 p2 s = conformance_level_any vt220_kind p1 p2 s
