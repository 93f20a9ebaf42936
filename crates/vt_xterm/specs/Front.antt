-- The function that an event asks for under TERM=xterm: one of these tables, otherwise a VT220's. (xterm's control
-- sequences: Functions using CSI, by the final byte. ECMA-48 8.3 has those of the first table down to SGR)
use Rattle.std.specs.Prelude.{ℕ, List, [], ◌∷◌, ◌++◌, Bool, true, false, Option, Some, None, ◌==◌, ◌&&◌, ◌||◌, unwrap_or, if◌then◌else◌}
use Rattle.std.specs.List.{list_any}
use Rattle.vt_syntax.specs.declared.event.Event.{Event}
use Rattle.vt_syntax.specs.declared.event.Event.TheVariants.{Print, Control, Escape, Sequence}
use Rattle.vt_syntax.specs.Spelling.{spell_event}
use Rattle.vt_glyph.specs.LookUp.{look_up}
use Rattle.vt_term.specs.State.{Display}
use Rattle.vt_term.specs.Parameters.{first, second, count}
use Rattle.vt_term.specs.Saving.{save_cursor}
use Rattle.vt_term.specs.Moving.{cursor_forward}
use Rattle.vt_term.specs.Modes.{autowrap_mode}
use Rattle.vt_term.specs.Editing.{is_inside, insert_line, delete_line}
use Rattle.vt_term.specs.Resets.{soft_reset, is_level, set_conformance_level, screen_alignment}
use Rattle.vt_term.specs.Functions.{byte, row, effect}
use Rattle.vt_xterm.specs.Columns.{cursor_character_absolute, line_position_absolute, line_position_forward}
use Rattle.vt_xterm.specs.Columns.{cursor_next_line, cursor_preceding_line}
use Rattle.vt_xterm.specs.Scroll.{rows_up, rows_down, rows_down_by}
use Rattle.vt_xterm.specs.Repeating.{repeat}
use Rattle.vt_xterm.specs.Tabs.{tab, cursor_forward_tabulation, cursor_backward_tabulation}
use Rattle.vt_xterm.specs.Attributes.{select_attributes}
use Rattle.vt_xterm.specs.declared.sides.Sides.{Sides}
use Rattle.vt_xterm.specs.Pages.{Screens, on_display, change_page_modes, reset_to_initial_state, sided, set_sides}
use Rattle.vt_xterm.specs.Pages.{with_full_sides, restore_screens, bounds_of}
use Rattle.vt_xterm.specs.Bounded.{is_bare, bounded_effect}

-- the functions of control sequences, by their final bytes
abbrev pub FunctionTable : Type 0
FunctionTable = List (ℕ × (List ℕ → Screens → Screens))

-- `s`: DECSLRM under DECLRMM, otherwise without parameters SCP, which is DECSC (xterm: SCOSC; VT510 manual: DECSLRM)
abbrev pub save_or_set_sides : List ℕ → Option Sides → Screens → Screens
save_or_set_sides params None s = if is_bare params then on_display save_cursor s else s
save_or_set_sides params (Some m) s = set_sides (first params) (second params) s

-- RCP: DECRC; with parameters it is another function (xterm: SCORC)
abbrev pub restore_if_bare : List ℕ → Screens → Screens
restore_if_bare params s = if is_bare params then restore_screens s else s

-- IL and DL: outside the margins they have no effect (xterm 379)
abbrev pub if_inside : (Display → Display) → Display → Display
if_inside f s = if is_inside s then f s else s

-- control sequences without marker and intermediate, each row with its function
abbrev pub plain_functions : FunctionTable
plain_functions =
    row "E" (λ params. on_display (cursor_next_line (count params)))  -- CNL
    ∷ row "F" (λ params. on_display (cursor_preceding_line (count params)))  -- CPL
    ∷ row "G" (λ params. on_display (cursor_character_absolute (count params)))  -- CHA
    ∷ row "I" (λ params. on_display (cursor_forward_tabulation (count params)))  -- CHT
    ∷ row "L" (λ params. on_display (if_inside (insert_line (count params))))  -- IL
    ∷ row "M" (λ params. on_display (if_inside (delete_line (count params))))  -- DL
    ∷ row "S" (λ params. on_display (rows_up (count params)))  -- SU
    ∷ row "T" (λ params. on_display (rows_down_by params))  -- SD
    ∷ row "Z" (λ params. on_display (cursor_backward_tabulation (count params)))  -- CBT
    ∷ row "^" (λ params. on_display (rows_down (count params)))  -- SD (xterm)
    ∷ row "`" (λ params. on_display (cursor_character_absolute (count params)))  -- HPA
    ∷ row "a" (λ params. on_display (cursor_forward (count params)))  -- HPR
    ∷ row "b" (λ params. on_display (repeat (count params)))  -- REP
    ∷ row "d" (λ params. on_display (line_position_absolute (count params)))  -- VPA
    ∷ row "e" (λ params. on_display (line_position_forward (count params)))  -- VPR
    ∷ row "m" (λ params. on_display (select_attributes params))  -- SGR
    ∷ row "s" (λ params s. save_or_set_sides params s.pages.sides s)  -- SCP, DECSLRM
    ∷ row "u" restore_if_bare  -- RCP
    ∷ []

-- control sequences with the marker `?`: SM and RM of private modes
abbrev pub private_functions : FunctionTable
private_functions = row "h" (change_page_modes true) ∷ row "l" (change_page_modes false) ∷ []

-- DECSTR: a soft reset that leaves DECAWM set, and resets DECLRMM (xterm)
abbrev pub soft_reset_wrapping : Display → Display
soft_reset_wrapping s = autowrap_mode true (soft_reset s)

-- control sequences with the intermediate `!`: DECSTR
abbrev pub exclamation_functions : FunctionTable
exclamation_functions = row "p" (λ params s. sided None (on_display soft_reset_wrapping s)) ∷ []

-- DECSCL: its soft reset leaves DECAWM set, too (xterm)
abbrev pub set_level_wrapping : List ℕ → Display → Display
set_level_wrapping params s =
    if is_level (first params) (second params)
    then autowrap_mode true (set_conformance_level (first params) (second params) s) else s

abbrev pub set_level_without_sides : List ℕ → Screens → Screens
set_level_without_sides params s =
    if is_level (first params) (second params) then sided None (on_display (set_level_wrapping params) s)
    else on_display (set_level_wrapping params) s

-- control sequences with the intermediate `"`: DECSCL
abbrev pub quote_functions : FunctionTable
quote_functions = row "p" set_level_without_sides ∷ []

-- the tables by the intermediate
abbrev pub intermediate_functions : List (ℕ × FunctionTable)
intermediate_functions = (0x22, quote_functions) ∷ row "!" exclamation_functions ∷ []

abbrev pub table_after : List (ℕ × FunctionTable) → ℕ → FunctionTable
table_after tables b = unwrap_or (look_up tables b) []

-- the table by the marker and the intermediate (ECMA-48 5.4)
unfoldable pub functions_of : Option ℕ → Option ℕ → FunctionTable
functions_of None None = plain_functions
functions_of (Some marker) None = table_after (row "?" private_functions ∷ []) marker
functions_of None (Some inter) = table_after intermediate_functions inter
functions_of (Some marker) (Some inter) = []

-- the function that the table has for the final byte, otherwise the event's effect on a VT220
unfoldable pub function_in : FunctionTable → Event → ℕ → List ℕ → Screens → Screens
function_in table event last params = unwrap_or (look_up table last) (λ params. on_display (effect event)) params

-- escape sequences without intermediate: DECRC, and RIS, which also resets the pages
abbrev pub plain_escapes : FunctionTable
plain_escapes =
    row "8" (λ params. restore_screens) ∷ row "c" (λ params. reset_to_initial_state) ∷ []

-- DECALN: the margins are full (xterm 379)
abbrev pub alignments : FunctionTable
alignments = row "8" (λ params s. with_full_sides (on_display screen_alignment s)) ∷ []

abbrev pub escapes_with : ℕ → FunctionTable
escapes_with inter = table_after (row "#" alignments ∷ []) inter

-- controls: HT has no effect while the wrap flag is set (xterm 379)
abbrev pub control_effect : ℕ → Display → Display
control_effect b s = if b == 0x09 then tab s else effect (Control b) s

-- the effect of an event if left and right margins leave no column out
abbrev pub screen_effect : Event → Screens → Screens
screen_effect (Print b) = on_display (effect (Print b))
screen_effect (Control b) = on_display (control_effect b)
screen_effect (Escape None last) = function_in plain_escapes (Escape None last) last []
screen_effect (Escape (Some inter) last) = function_in (escapes_with inter) (Escape (Some inter) last) last []
screen_effect (Sequence marker params inter last) =
    function_in (functions_of marker inter) (Sequence marker params inter last) last params.items

-- the effect of an event between these margins, or as without any
abbrev pub effect_between : Event → Option Sides → Screens → Screens
effect_between event None s = screen_effect event s
effect_between event (Some m) s = bounded_effect screen_effect event m s

-- the effect of an event
abbrev pub xterm_effect : Event → Screens → Screens
xterm_effect event s = effect_between event (bounds_of s) s

-- ---- what may change the pages or the width, for laws

-- ?3, ?40, ?47, ?1047 and ?1049
abbrev pub is_page_mode : ℕ → Bool
is_page_mode p = p == 3 || (p == 40 || (p == 47 || (p == 1047 || p == 1049)))

-- ?2004
abbrev pub is_paste_mode : ℕ → Bool
is_paste_mode p = p == 2004

-- ?69h, among other modes or not
abbrev pub sets_sides : ℕ → ℕ → List ℕ → Bool
sets_sides marker last params = marker == byte "?" && (last == byte "h" && list_any (λ p. p == 69) params)

-- a control sequence that is SM or RM of one of these modes
abbrev pub sets_mode : (ℕ → Bool) → ℕ → ℕ → List ℕ → Bool
sets_mode is_mode marker last params =
    marker == byte "?" && ((last == byte "h" || last == byte "l") && list_any is_mode params)

abbrev pub sets_page_mode : ℕ → ℕ → List ℕ → Bool
sets_page_mode = sets_mode is_page_mode

-- RIS, and SM and RM of these modes
abbrev pub is_page_function : Event → Bool
is_page_function (Print b) = false
is_page_function (Control b) = false
is_page_function (Escape None last) = last == byte "c"
is_page_function (Escape (Some inter) last) = false
is_page_function (Sequence None params inter last) = false
is_page_function (Sequence (Some marker) params None last) = sets_page_mode marker last params.items
is_page_function (Sequence (Some marker) params (Some inter) last) = false

-- RIS, and SM and RM of ?2004
abbrev pub is_paste_function : Event → Bool
is_paste_function (Print b) = false
is_paste_function (Control b) = false
is_paste_function (Escape None last) = last == byte "c"
is_paste_function (Escape (Some inter) last) = false
is_paste_function (Sequence None params inter last) = false
is_paste_function (Sequence (Some marker) params None last) = sets_mode is_paste_mode marker last params.items
is_paste_function (Sequence (Some marker) params (Some inter) last) = false

-- SM of ?69
abbrev pub is_side_function : Event → Bool
is_side_function (Print b) = false
is_side_function (Control b) = false
is_side_function (Escape inter last) = false
is_side_function (Sequence None params inter last) = false
is_side_function (Sequence (Some marker) params None last) = sets_sides marker last params.items
is_side_function (Sequence (Some marker) params (Some inter) last) = false

-- CSI ? 1049 h, and CSI ? 1049 l
abbrev pub alternate_page : Bool → Event
alternate_page shown =
    Sequence (Some (byte "?")) (record { items = 1049 ∷ [] }) None (byte (if shown then "h" else "l"))

-- ?1049h and then the bytes
abbrev pub into_alternate : List ℕ → List ℕ
into_alternate bytes = spell_event (alternate_page true) ++ bytes

-- ?1049h, the bytes, and then ?1049l
abbrev pub through_alternate : List ℕ → List ℕ
through_alternate bytes = spell_event (alternate_page true) ++ (bytes ++ spell_event (alternate_page false))
