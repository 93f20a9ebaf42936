-- Modes. (EK-VT220-RM, chapter 4, by the mnemonics; what DECCOLM clears and keeps is this profile's)
use Rattle.std.specs.Prelude.{ℕ, List, [], ◌∷◌, Bool, false, ◌&&◌, min, unwrap_or, fold}
use Rattle.vt_glyph.specs.LookUp.{look_up}
use Rattle.vt_screen.specs.Grid.{blank_any}
use Rattle.vt_screen.specs.Sizes.{width_of}
use Rattle.vt_term.specs.declared.state.Modes.{Modes}
use Rattle.vt_term.specs.State.{DisplayOf, Display, margins_of}
use Rattle.vt_term.specs.Kinds.{KindOf}
use Rattle.vt_term.specs.Rendition.{vt220_kind}
use Rattle.vt_term.specs.Moving.{home}

-- a mode that changes nothing else
abbrev pub with_modes : {C B : Type 0} → (Modes → Modes) → DisplayOf C B → DisplayOf C B
with_modes change s = record s { modes = change s.modes }

-- DECOM: the cursor goes home
abbrev pub origin_mode : {C B : Type 0} → Bool → DisplayOf C B → DisplayOf C B
origin_mode on s = home (with_modes (λ m. record m { decom = on }) s)

-- DECAWM: without it the wrap flag is reset
abbrev pub autowrap_mode : {C B : Type 0} → Bool → DisplayOf C B → DisplayOf C B
autowrap_mode on s = record s {
  modes = record s.modes { decawm = on };
  cursor = record s.cursor { wrap = s.cursor.wrap && on };
}

-- DECCOLM: 132 or 80 columns, all blank, full margins, home; the saved column keeps inside the width, and the saved
-- wrap flag is dropped
abbrev pub column_mode_any : {C B : Type 0} → KindOf C B → Bool → DisplayOf C B → DisplayOf C B
column_mode_any k wide s = home (record s {
  grid = blank_any k.cells.blank s.grid.size wide;
  margins = margins_of s.grid.size;
  saved = record s.saved { col = min s.saved.col (width_of s.grid.size wide); wrap = false };
})

-- DECKPAM and DECKPNM
abbrev pub keypad_mode : {C B : Type 0} → Bool → DisplayOf C B → DisplayOf C B
keypad_mode application s = with_modes (λ m. record m { keypad_application = application }) s

-- S8C1T and S7C1T
abbrev pub report_form : {C B : Type 0} → Bool → DisplayOf C B → DisplayOf C B
report_form eight s = with_modes (λ m. record m { reports_8bit = eight }) s

-- KAM, IRM and SRM (ECMA-48 7.2), and LNM (EK-VT220-RM)
abbrev pub ansi_modes_any : {C B : Type 0} → List (ℕ × (Bool → DisplayOf C B → DisplayOf C B))
ansi_modes_any =
    (2, λ on. with_modes (λ m. record m { kam = on }))
    ∷ (4, λ on. with_modes (λ m. record m { irm = on }))
    ∷ (12, λ on. with_modes (λ m. record m { srm = on }))
    ∷ (20, λ on. with_modes (λ m. record m { lnm = on }))
    ∷ []

-- DECCKM, DECCOLM, DECSCLM, DECSCNM, DECOM, DECAWM, DECARM and DECTCEM
abbrev pub private_modes_any : {C B : Type 0} → KindOf C B → List (ℕ × (Bool → DisplayOf C B → DisplayOf C B))
private_modes_any k =
    (1, λ on. with_modes (λ m. record m { decckm = on }))
    ∷ (3, column_mode_any k)
    ∷ (4, λ on. with_modes (λ m. record m { decsclm = on }))
    ∷ (5, λ on. with_modes (λ m. record m { decscnm = on }))
    ∷ (6, origin_mode)
    ∷ (7, autowrap_mode)
    ∷ (8, λ on. with_modes (λ m. record m { decarm = on }))
    ∷ (25, λ on. with_modes (λ m. record m { dectcem = on }))
    ∷ []

-- the values of KAM, IRM, SRM and LNM
abbrev pub ansi_values : List (ℕ × (Modes → Bool))
ansi_values = (2, λ m. m.kam) ∷ (4, λ m. m.irm) ∷ (12, λ m. m.srm) ∷ (20, λ m. m.lnm) ∷ []

-- the values of DECCKM, DECSCLM, DECSCNM, DECOM, DECAWM, DECARM and DECTCEM; that of DECCOLM is the width
abbrev pub private_values : List (ℕ × (Modes → Bool))
private_values =
    (1, λ m. m.decckm) ∷ (4, λ m. m.decsclm) ∷ (5, λ m. m.decscnm) ∷ (6, λ m. m.decom) ∷ (7, λ m. m.decawm)
    ∷ (8, λ m. m.decarm) ∷ (25, λ m. m.dectcem) ∷ []

-- whether a mode is set; a number that isn't in the table isn't
abbrev pub is_set : List (ℕ × (Modes → Bool)) → ℕ → Modes → Bool
is_set values p m = unwrap_or (look_up values p) (λ m. false) m

-- one mode; a number that isn't in the table does nothing
unfoldable pub with_mode : {C B : Type 0} → List (ℕ × (Bool → DisplayOf C B → DisplayOf C B)) → Bool → ℕ → DisplayOf C B → DisplayOf C B
with_mode table on p = unwrap_or (look_up table p) (λ on s. s) on

-- SM and RM: each parameter in order (ECMA-48 8.3.125, 8.3.106)
abbrev pub change_modes : {C B : Type 0} → List (ℕ × (Bool → DisplayOf C B → DisplayOf C B)) → Bool → List ℕ → DisplayOf C B → DisplayOf C B
change_modes table on params s = fold (λ s p. with_mode table on p s) s params

-- ---- on a VT220

abbrev pub column_mode : Bool → Display → Display
column_mode wide s = column_mode_any vt220_kind wide s

abbrev pub ansi_modes : List (ℕ × (Bool → Display → Display))
ansi_modes = ansi_modes_any

abbrev pub private_modes : List (ℕ × (Bool → Display → Display))
private_modes = private_modes_any vt220_kind
