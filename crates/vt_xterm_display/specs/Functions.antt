-- The control functions of an xterm, by the bytes that ask for them. What isn't in these tables is a VT220's. (xterm's control sequences, ctlseqs:
-- C1, Functions using CSI; ECMA-48 8.3 by the mnemonics)
use Rattle.std.specs.Prelude.{ℕ, List, [], ◌∷◌, Bool, true, false, Option, Some, None, length, ◌==◌, ◌&&◌, unwrap_or, if◌then◌else◌}
use Rattle.vt_syntax.specs.declared.event.Event.{Event}
use Rattle.vt_syntax.specs.declared.event.Event.TheVariants.{Print, Control, Escape, Sequence}
use Rattle.vt_glyph.specs.LookUp.{look_up}
use Rattle.vt_glyph.specs.Tables.{substitute_glyph}
use Rattle.vt_term.specs.Parameters.{first, second, count}
use Rattle.vt_term.specs.Saving.{save_cursor}
use Rattle.vt_term.specs.Functions.{row, effect_any}
use Rattle.vt_term.specs.Reports.{report_any}
use Rattle.vt_feed.specs.Actions.{Action, Function, Character, MachineOf}
use Rattle.vt_xterm_cell.specs.Cells.{written_cell}
use Rattle.vt_xterm_display.specs.declared.sides.Sides.{Sides}
use Rattle.vt_xterm_display.specs.State.{Shown, XtermState, xterm_kind, on_shown, moved, between}
use Rattle.vt_xterm_display.specs.Moving.{cursor_forward, cursor_backward, cursor_position, cursor_character_absolute, carriage_return}
use Rattle.vt_xterm_display.specs.Moving.{character_position_forward, line_position_absolute, line_position_forward}
use Rattle.vt_xterm_display.specs.Moving.{cursor_up_between, cursor_down_between, cursor_next_line, cursor_preceding_line}
use Rattle.vt_xterm_display.specs.Moving.{set_margins, set_sides}
use Rattle.vt_xterm_display.specs.Tabs.{cursor_forward_tabulation, cursor_backward_tabulation}
use Rattle.vt_xterm_display.specs.Rows.{index, reverse_index, next_line, line_feed, rows_up, rows_down, insert_line, delete_line}
use Rattle.vt_xterm_display.specs.Editing.{erase_character, erase_in_line, erase_in_display, insert_character, delete_character}
use Rattle.vt_xterm_display.specs.Writing.{write, print, write_character, repeat}
use Rattle.vt_xterm_display.specs.Pages.{restore, change_modes, set_cursor_style}
use Rattle.vt_xterm_display.specs.Resets.{screen_alignment, reset_to_initial_state, soft_reset, set_conformance_level}

-- functions by their controls or final bytes
abbrev pub Table : Type 0
Table = List (ℕ × (List ℕ → XtermState → XtermState))

-- the only parameter is empty, or 0
abbrev pub is_bare : List ℕ → Bool
is_bare params = length params == 1 && first params == 0

-- SUB writes U+2426 with the pen (this profile)
abbrev pub substitute : XtermState → XtermState
substitute s = write (written_cell s.shown.brush substitute_glyph false) s

-- SD by `T`: with one parameter, since more of them ask for another function (ctlseqs)
abbrev pub rows_down_by : List ℕ → XtermState → XtermState
rows_down_by params s = if length params == 1 then between (rows_down (count params)) s else s

-- `s`: DECSLRM under DECLRMM, otherwise without parameters SCP, which is DECSC (ctlseqs: SCOSC; VT510 manual: DECSLRM)
abbrev pub save_or_set_sides : List ℕ → XtermState → XtermState
save_or_set_sides params s =
    if s.bounded then set_sides (first params) (second params) s else (if is_bare params then on_shown save_cursor s else s)

-- RCP: DECRC; with parameters it is another function (ctlseqs: SCORC)
abbrev pub restore_if_bare : List ℕ → XtermState → XtermState
restore_if_bare params s = if is_bare params then restore s else s

abbrev pub controls : Table
controls =
    (0x08, λ params. moved (cursor_backward 1))  -- BS
    ∷ (0x09, λ params. cursor_forward_tabulation 1)  -- HT
    ∷ (0x0A, λ params. moved line_feed)  -- LF
    ∷ (0x0B, λ params. moved line_feed)  -- VT
    ∷ (0x0C, λ params. moved line_feed)  -- FF
    ∷ (0x0D, λ params. moved carriage_return)  -- CR
    ∷ (0x1A, λ params. substitute)  -- SUB
    ∷ (0x84, λ params. moved index)  -- IND
    ∷ (0x85, λ params. moved next_line)  -- NEL
    ∷ (0x8D, λ params. moved reverse_index)  -- RI
    ∷ []

-- escape sequences without an intermediate: DECRC and RIS
abbrev pub plain_escapes : Table
plain_escapes = row "8" (λ params. restore) ∷ row "c" (λ params. reset_to_initial_state) ∷ []

-- control sequences without marker and intermediate
abbrev pub plain_sequences : Table
plain_sequences =
    row "@" (λ params. moved (insert_character (count params)))  -- ICH
    ∷ row "A" (λ params. moved (cursor_up_between (count params)))  -- CUU
    ∷ row "B" (λ params. moved (cursor_down_between (count params)))  -- CUD
    ∷ row "C" (λ params. moved (cursor_forward (count params)))  -- CUF
    ∷ row "D" (λ params. moved (cursor_backward (count params)))  -- CUB
    ∷ row "E" (λ params. moved (cursor_next_line (count params)))  -- CNL
    ∷ row "F" (λ params. moved (cursor_preceding_line (count params)))  -- CPL
    ∷ row "G" (λ params. moved (cursor_character_absolute (count params)))  -- CHA
    ∷ row "H" (λ params. moved (cursor_position (first params) (second params)))  -- CUP
    ∷ row "I" (λ params. cursor_forward_tabulation (count params))  -- CHT
    ∷ row "J" (λ params. erase_in_display false (first params))  -- ED
    ∷ row "K" (λ params. erase_in_line false (first params))  -- EL
    ∷ row "L" (λ params. insert_line (count params))  -- IL
    ∷ row "M" (λ params. delete_line (count params))  -- DL
    ∷ row "P" (λ params. delete_character (count params))  -- DCH
    ∷ row "S" (λ params. between (rows_up (count params)))  -- SU
    ∷ row "T" rows_down_by  -- SD
    ∷ row "X" (λ params. moved (erase_character (count params)))  -- ECH
    ∷ row "Z" (λ params. cursor_backward_tabulation (count params))  -- CBT
    ∷ row "^" (λ params. between (rows_down (count params)))  -- SD (xterm)
    ∷ row "`" (λ params. moved (cursor_character_absolute (count params)))  -- HPA
    ∷ row "a" (λ params. moved (character_position_forward (count params)))  -- HPR
    ∷ row "b" (λ params. repeat (count params))  -- REP
    ∷ row "d" (λ params. moved (line_position_absolute (count params)))  -- VPA
    ∷ row "e" (λ params. moved (line_position_forward (count params)))  -- VPR
    ∷ row "f" (λ params. moved (cursor_position (first params) (second params)))  -- HVP
    ∷ row "r" (λ params. set_margins (first params) (second params))  -- DECSTBM
    ∷ row "s" save_or_set_sides  -- SCP, DECSLRM
    ∷ row "u" restore_if_bare  -- RCP
    ∷ []

-- control sequences with the marker `?`
abbrev pub private_sequences : Table
private_sequences =
    row "J" (λ params. erase_in_display true (first params))  -- DECSED
    ∷ row "K" (λ params. erase_in_line true (first params))  -- DECSEL
    ∷ row "h" (change_modes true)  -- SM
    ∷ row "l" (change_modes false)  -- RM
    ∷ []

-- control sequences by their intermediate: DECSCUSR, DECSTR and DECSCL
abbrev pub space_sequences : Table
space_sequences = row "q" (λ params. set_cursor_style (first params)) ∷ []

abbrev pub exclamation_sequences : Table
exclamation_sequences = row "p" (λ params. soft_reset) ∷ []

abbrev pub quote_sequences : Table
quote_sequences = row "p" (λ params. set_conformance_level (first params) (second params)) ∷ []

-- the table by the marker and the intermediate (ECMA-48 5.4)
unfoldable pub sequences : Option ℕ → Option ℕ → Table
sequences None None = plain_sequences
sequences (Some marker) None = unwrap_or (look_up (row "?" private_sequences ∷ []) marker) []
sequences None (Some inter) =
    unwrap_or (look_up (row " " space_sequences ∷ row "!" exclamation_sequences ∷ (0x22, quote_sequences) ∷ []) inter) []
sequences (Some marker) (Some inter) = []

-- an event's effect on a VT220, with an xterm's cells
abbrev pub plainly : Event → XtermState → XtermState
plainly event = on_shown (effect_any xterm_kind event)

-- the table's function, otherwise the VT220's
unfoldable pub function_in : Table → Event → ℕ → List ℕ → XtermState → XtermState
function_in table event last params = unwrap_or (look_up table last) (λ params. plainly event) params

-- DECALN
abbrev pub alignments : ℕ → Table
alignments inter = unwrap_or (look_up (row "#" (row "8" (λ params. screen_alignment) ∷ []) ∷ []) inter) []

-- the effect of an event
abbrev pub effect : Event → XtermState → XtermState
effect (Print b) = print b
effect (Control b) = function_in controls (Control b) b []
effect (Escape None last) = function_in plain_escapes (Escape None last) last []
effect (Escape (Some inter) last) = function_in (alignments inter) (Escape (Some inter) last) last []
effect (Sequence marker params inter last) =
    function_in (sequences marker inter) (Sequence marker params inter last) last params.items

-- ---- actions

abbrev pub carried_out : Action → XtermState → XtermState
carried_out (Function event) = effect event
carried_out (Character c) = write_character c

-- its reports are those of a VT220
abbrev pub reported : Action → XtermState → List ℕ
reported (Function event) s = report_any xterm_kind event s.shown
reported (Character c) s = []

abbrev pub xterm : MachineOf XtermState
xterm = record { effect = carried_out; report = reported }
