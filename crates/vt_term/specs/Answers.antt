-- The texts of reports. (EK-VT220-RM, chapter 4: DA, DECID and DSR; the features and numbers of the attributes are this
-- profile's)
use Rattle.std.specs.Prelude.{ℕ, ◌+◌, ◌-◌, List, [], ◌∷◌, ◌++◌, unwrap_or, codes, decimal, if◌then◌else◌}
use Rattle.vt_glyph.specs.LookUp.{look_up}
use Rattle.vt_term.specs.State.{DisplayOf}

abbrev pub silent : {C B : Type 0} → DisplayOf C B → List ℕ
silent s = []

-- CSI, in one byte or in two (ECMA-48 5.3; EK-VT220-RM, chapter 4: S8C1T and S7C1T)
abbrev pub introducer : {C B : Type 0} → DisplayOf C B → List ℕ
introducer s = if s.modes.reports_8bit then 0x9B ∷ [] else 0x1B ∷ 0x5B ∷ []

abbrev pub answer : {C B : Type 0} → List ℕ → DisplayOf C B → List ℕ
answer text s = introducer s ++ text

-- the cursor's row, under DECOM counted from the top margin (EK-VT220-RM, chapter 4: DECOM)
abbrev pub line_of_cursor : {C B : Type 0} → DisplayOf C B → ℕ
line_of_cursor s = if s.modes.decom then s.cursor.row - s.margins.top + 1 else s.cursor.row

-- CPR (ECMA-48 8.3.14)
abbrev pub cursor_report : {C B : Type 0} → DisplayOf C B → List ℕ
cursor_report s = answer (decimal (line_of_cursor s) ++ codes ";" ++ decimal s.cursor.col ++ codes "R") s

-- ---- by the first value of a request

abbrev pub ReportsOf : (C B : Type 0) → Type 0
ReportsOf C B = List (ℕ × (DisplayOf C B → List ℕ))

-- what is reported for a value
abbrev pub reported : {C B : Type 0} → ReportsOf C B → ℕ → DisplayOf C B → List ℕ
reported reports p = unwrap_or (look_up reports p) silent

-- DA (ECMA-48 8.3.24), and DECID: a VT220 with 132 columns and selective erase
abbrev pub primary_reports : {C B : Type 0} → ReportsOf C B
primary_reports = (0, answer (codes "?62;1;6c")) ∷ []

-- secondary DA (EK-VT220-RM)
abbrev pub secondary_reports : {C B : Type 0} → ReportsOf C B
secondary_reports = (0, answer (codes ">1;10;0c")) ∷ []

-- DSR: the operating status, and the cursor's position (ECMA-48 8.3.35)
abbrev pub status_reports : {C B : Type 0} → ReportsOf C B
status_reports = (5, answer (codes "0n")) ∷ (6, cursor_report) ∷ []

-- DSR after `?`: the printer, and the keyboard's language (EK-VT220-RM)
abbrev pub private_reports : {C B : Type 0} → ReportsOf C B
private_reports = (15, answer (codes "?13n")) ∷ (26, answer (codes "?27;1n")) ∷ []
