-- The control functions: one row for each, with its name, the values that it takes, its effect and its report.
-- (EK-VT220-RM, chapter 4, by the mnemonic in each row. ECMA-48 8.3 has the functions whose mnemonics don't begin with
-- DEC, but for IND. SCS, S7C1T and S8C1T are ECMA-35's)
use Rattle.std.specs.Prelude.{ℕ, List, [], ◌∷◌, ◌++◌, Bool, true, false, Option, Some, None, unwrap_or, option_map, slice_index_or, codes}
use Rattle.std.specs.Prelude.{map, is_some}
use Rattle.std.specs.List.{list_any}
use Prim.Native.String.{String}
use Rattle.vt_syntax.specs.declared.event.Event.{Event}
use Rattle.vt_syntax.specs.declared.event.Event.TheVariants.{Print, Control, Escape, Sequence}
use Rattle.vt_glyph.specs.declared.set.Set.{Set}
use Rattle.vt_glyph.specs.declared.set.Set.TheVariants.{Ascii, British, German, Special, Supplemental}
use Rattle.vt_glyph.specs.LookUp.{look_up, contains}
use Rattle.vt_glyph.specs.Tables.{substitute_glyph}
use Rattle.vt_glyph.specs.Designation.{set_of_final}
use Rattle.vt_glyph.specs.GraphicSets.{GraphicSets}
use Rattle.vt_glyph.specs.Invocation.{designated, locked_left, locked_right, shifted_once}
use Rattle.vt_screen.specs.declared.cell.Cell.{Cell}
use Rattle.vt_screen.specs.declared.cell.Brush.{Brush}
use Rattle.vt_term.specs.Kinds.{KindOf}
use Rattle.vt_term.specs.State.{DisplayOf, Display}
use Rattle.vt_term.specs.Parameters.{first, second, count}
use Rattle.vt_term.specs.Moving.{backspace, carriage_return, cursor_up, cursor_down, cursor_forward, cursor_backward}
use Rattle.vt_term.specs.Moving.{cursor_position, index_any, reverse_index_any, next_line_any, line_feed_any, are_margins, set_margins}
use Rattle.vt_term.specs.Tabs.{horizontal_tab, set_tab, clear_tabs}
use Rattle.vt_term.specs.Writing.{write_glyph_any, print_any}
use Rattle.vt_term.specs.Editing.{insert_line_any, delete_line_any, insert_character_any, delete_character_any, erase_character_any}
use Rattle.vt_term.specs.Editing.{names_area, erase_in_display_any, erase_in_line_any}
use Rattle.vt_term.specs.Rendition.{vt220_kind, select_any, select_protection_any}
use Rattle.vt_term.specs.Modes.{ansi_modes_any, private_modes_any, change_modes, keypad_mode, report_form}
use Rattle.vt_term.specs.Saving.{save_cursor, restore_cursor}
use Rattle.vt_term.specs.Resets.{screen_alignment_any, reset_any, soft_reset_any, is_level, conformance_level_any}
use Rattle.vt_term.specs.Answers.{ReportsOf, reported, silent, primary_reports, secondary_reports, status_reports, private_reports}

-- the byte of a letter, for tables
abbrev pub byte : String → ℕ
byte letter = slice_index_or (codes letter) 0 0

-- a row of a table: the byte of a letter, and what the table has for it
abbrev pub row : {A : Type 0} → String → A → ℕ × A
row letter entry = (byte letter, entry)

-- a control function. An event that asks for it with other values is ignored (EK-VT220-RM, chapter 4)
pub record FunctionOf (C B : Type 0) : Type 0 where
  pub name : List ℕ
  -- whether the function takes these values of a control sequence, on a screen of so many rows
  pub takes : ℕ → List ℕ → Bool
  pub effect : List ℕ → DisplayOf C B → DisplayOf C B
  -- the function's report, by the first value, in the state before the event
  pub report : ℕ → DisplayOf C B → List ℕ

-- control functions by the byte that ends their sequences, or by the control
abbrev pub FunctionTableOf : (C B : Type 0) → Type 0
FunctionTableOf C B = List (ℕ × FunctionOf C B)

-- ---- kinds of rows

-- a function of any values
abbrev pub changing : {C B : Type 0} → List ℕ → (List ℕ → DisplayOf C B → DisplayOf C B) → FunctionOf C B
changing name effect = record { name = name; takes = λ rows values. true; effect = effect; report = λ p. silent }

-- a function without values
abbrev pub plain : {C B : Type 0} → List ℕ → (DisplayOf C B → DisplayOf C B) → FunctionOf C B
plain name effect = changing name (λ values. effect)

-- a function of a count
abbrev pub counted : {C B : Type 0} → List ℕ → (ℕ → DisplayOf C B → DisplayOf C B) → FunctionOf C B
counted name effect = changing name (λ values. effect (count values))

-- a function of its first value
abbrev pub selected : {C B : Type 0} → List ℕ → (ℕ → DisplayOf C B → DisplayOf C B) → FunctionOf C B
selected name effect = changing name (λ values. effect (first values))

-- a function of its first two values
abbrev pub paired : {C B : Type 0} → List ℕ → (ℕ → ℕ → DisplayOf C B → DisplayOf C B) → FunctionOf C B
paired name effect = changing name (λ values. effect (first values) (second values))

-- a function, if the values pass the test
abbrev pub taking : {C B : Type 0} → (List ℕ → Bool) → FunctionOf C B → FunctionOf C B
taking takes f = record f { takes = λ rows values. takes values }

-- a function, if the first value is one of these
abbrev pub of_first : {C B : Type 0} → List ℕ → FunctionOf C B → FunctionOf C B
of_first numbers = taking (λ values. contains numbers (first values))

-- a function, if one of the values is one of these
abbrev pub of_any : {C B : Type 0} → List ℕ → FunctionOf C B → FunctionOf C B
of_any numbers = taking (λ values. list_any (contains numbers) values)

-- a function, if the first two values pass the test
abbrev pub of_pair : {C B : Type 0} → (ℕ → ℕ → Bool) → FunctionOf C B → FunctionOf C B
of_pair test = taking (λ values. test (first values) (second values))

-- a function, if the first two values are margins of a screen of these rows
abbrev pub of_margins : {C B : Type 0} → FunctionOf C B → FunctionOf C B
of_margins f = record f { takes = λ rows values. are_margins rows (first values) (second values) }

-- a function that erases an area, if the first value names one
abbrev pub erasing : {C B : Type 0} → List ℕ → (ℕ → DisplayOf C B → DisplayOf C B) → FunctionOf C B
erasing name effect = taking (λ values. names_area (first values)) (selected name effect)

-- the numbers of a table
abbrev pub numbers_of : {X : Type 0} → List (ℕ × X) → List ℕ
numbers_of rows = map (λ row. row.0) rows

-- a request for one of these reports
abbrev pub reporting : {C B : Type 0} → List ℕ → ReportsOf C B → FunctionOf C B
reporting name reports = record {
  name = name;
  takes = λ rows values. contains (numbers_of reports) (first values);
  effect = λ values s. s;
  report = reported reports;
}

-- a function that changes one mode, or more, of these
abbrev pub modal : {C B : Type 0} → List ℕ → List (ℕ × (Bool → DisplayOf C B → DisplayOf C B)) → Bool → FunctionOf C B
modal name modes on = of_any (numbers_of modes) (changing name (change_modes modes on))

-- no function
abbrev pub no_function : {C B : Type 0} → FunctionOf C B
no_function = record { name = []; takes = λ rows values. false; effect = λ values s. s; report = λ p. silent }

-- the function that the table has for the byte, if it has one
abbrev pub function_in : {C B : Type 0} → FunctionTableOf C B → ℕ → FunctionOf C B
function_in table b = unwrap_or (look_up table b) no_function

-- ---- graphic bytes and controls

-- a change of the sets alone
abbrev pub with_sets : {C B : Type 0} → (GraphicSets → GraphicSets) → DisplayOf C B → DisplayOf C B
with_sets change s = record s { sets = change s.sets }

-- the functions of controls, by the control
abbrev pub controls_any : {C B : Type 0} → KindOf C B → FunctionTableOf C B
controls_any k =
    (0x08, plain (codes "BS") backspace)
    ∷ (0x09, plain (codes "HT") horizontal_tab)
    ∷ (0x0A, plain (codes "LF") (line_feed_any k))
    ∷ (0x0B, plain (codes "VT") (line_feed_any k))
    ∷ (0x0C, plain (codes "FF") (line_feed_any k))
    ∷ (0x0D, plain (codes "CR") carriage_return)
    ∷ (0x0E, plain (codes "SO") (with_sets (locked_left 1)))
    ∷ (0x0F, plain (codes "SI") (with_sets (locked_left 0)))
    ∷ (0x1A, plain (codes "SUB") (write_glyph_any k substitute_glyph))
    ∷ (0x84, plain (codes "IND") (index_any k))
    ∷ (0x85, plain (codes "NEL") (next_line_any k))
    ∷ (0x88, plain (codes "HTS") set_tab)
    ∷ (0x8D, plain (codes "RI") (reverse_index_any k))
    ∷ (0x8E, plain (codes "SS2") (with_sets (shifted_once 2)))
    ∷ (0x8F, plain (codes "SS3") (with_sets (shifted_once 3)))
    ∷ (0x9A, reporting (codes "DECID") primary_reports)
    ∷ []

unfoldable pub control_any : {C B : Type 0} → KindOf C B → ℕ → DisplayOf C B → DisplayOf C B
control_any k b = (function_in (controls_any k) b).effect []

-- ---- escape sequences

-- escape sequences without an intermediate, by the final byte
abbrev pub plain_escapes_any : {C B : Type 0} → KindOf C B → FunctionTableOf C B
plain_escapes_any k =
    row "7" (plain (codes "DECSC") save_cursor)
    ∷ row "8" (plain (codes "DECRC") restore_cursor)
    ∷ row "=" (plain (codes "DECKPAM") (keypad_mode true))
    ∷ row ">" (plain (codes "DECKPNM") (keypad_mode false))
    ∷ row "c" (plain (codes "RIS") (reset_any k))
    ∷ row "n" (plain (codes "LS2") (with_sets (locked_left 2)))
    ∷ row "o" (plain (codes "LS3") (with_sets (locked_left 3)))
    ∷ row "~" (plain (codes "LS1R") (with_sets (locked_right 1)))
    ∷ row "}" (plain (codes "LS2R") (with_sets (locked_right 2)))
    ∷ row "|" (plain (codes "LS3R") (with_sets (locked_right 3)))
    ∷ []

-- escape sequences with a space as their intermediate
abbrev pub space_escapes_any : {C B : Type 0} → KindOf C B → FunctionTableOf C B
space_escapes_any k =
    row "F" (plain (codes "S7C1T") (report_form false))
    ∷ row "G" (plain (codes "S8C1T") (report_form true))
    ∷ []

-- escape sequences with the intermediate `#`
abbrev pub number_sign_escapes_any : {C B : Type 0} → KindOf C B → FunctionTableOf C B
number_sign_escapes_any k = row "8" (plain (codes "DECALN") (screen_alignment_any k)) ∷ []

abbrev pub set_name : Set → List ℕ
set_name Ascii = codes "ASCII"
set_name British = codes "British"
set_name German = codes "German"
set_name Special = codes "Special Graphics"
set_name Supplemental = codes "Supplemental"

abbrev pub designate_to : {C B : Type 0} → ℕ → Option Set → DisplayOf C B → DisplayOf C B
designate_to slot None s = s
designate_to slot (Some set) s = with_sets (designated slot set) s

abbrev pub designate : {C B : Type 0} → ℕ → ℕ → DisplayOf C B → DisplayOf C B
designate slot last = designate_to slot (set_of_final last)

-- SCS, by the final byte that says the set (ECMA-35 14); another final byte does nothing
abbrev pub designation : {C B : Type 0} → ℕ → List ℕ → ℕ → FunctionOf C B
designation slot name last = record {
  name = name ++ unwrap_or (option_map set_name (set_of_final last)) [];
  takes = λ rows values. is_some (set_of_final last);
  effect = λ values. designate slot last;
  report = λ p. silent;
}

-- escape sequences with an intermediate, by it and then by the final byte
abbrev pub escape_tables_any : {C B : Type 0} → KindOf C B → List (ℕ × (ℕ → FunctionOf C B))
escape_tables_any k =
    row " " (function_in (space_escapes_any k))
    ∷ row "#" (function_in (number_sign_escapes_any k))
    ∷ row "(" (designation 0 (codes "SCS G0 "))
    ∷ row ")" (designation 1 (codes "SCS G1 "))
    ∷ row "*" (designation 2 (codes "SCS G2 "))
    ∷ row "+" (designation 3 (codes "SCS G3 "))
    ∷ []

abbrev pub escape_function_any : {C B : Type 0} → KindOf C B → ℕ → ℕ → FunctionOf C B
escape_function_any k inter last = unwrap_or (look_up (escape_tables_any k) inter) (λ last. no_function) last

unfoldable pub plain_escape_any : {C B : Type 0} → KindOf C B → ℕ → DisplayOf C B → DisplayOf C B
plain_escape_any k last = (function_in (plain_escapes_any k) last).effect []

unfoldable pub escape_with_any : {C B : Type 0} → KindOf C B → ℕ → ℕ → DisplayOf C B → DisplayOf C B
escape_with_any k inter last = (escape_function_any k inter last).effect []

-- ---- control sequences

-- control sequences without marker and intermediate, by the final byte
abbrev pub plain_sequences_any : {C B : Type 0} → KindOf C B → FunctionTableOf C B
plain_sequences_any k =
    row "@" (counted (codes "ICH") (insert_character_any k))
    ∷ row "A" (counted (codes "CUU") cursor_up)
    ∷ row "B" (counted (codes "CUD") cursor_down)
    ∷ row "C" (counted (codes "CUF") cursor_forward)
    ∷ row "D" (counted (codes "CUB") cursor_backward)
    ∷ row "H" (paired (codes "CUP") cursor_position)
    ∷ row "J" (erasing (codes "ED") (erase_in_display_any k false))
    ∷ row "K" (erasing (codes "EL") (erase_in_line_any k false))
    ∷ row "L" (counted (codes "IL") (insert_line_any k))
    ∷ row "M" (counted (codes "DL") (delete_line_any k))
    ∷ row "P" (counted (codes "DCH") (delete_character_any k))
    ∷ row "X" (counted (codes "ECH") (erase_character_any k))
    ∷ row "c" (reporting (codes "DA") primary_reports)
    ∷ row "f" (paired (codes "HVP") cursor_position)
    ∷ row "g" (of_first (0 ∷ 3 ∷ []) (selected (codes "TBC") clear_tabs))
    ∷ row "h" (modal (codes "SM") ansi_modes_any true)
    ∷ row "l" (modal (codes "RM") ansi_modes_any false)
    ∷ row "m" (of_any k.own.attribute_numbers (changing (codes "SGR") (select_any k)))
    ∷ row "n" (reporting (codes "DSR") status_reports)
    ∷ row "r" (of_margins (paired (codes "DECSTBM") set_margins))
    ∷ []

-- control sequences with the marker `?`
abbrev pub private_sequences_any : {C B : Type 0} → KindOf C B → FunctionTableOf C B
private_sequences_any k =
    row "J" (erasing (codes "DECSED") (erase_in_display_any k true))
    ∷ row "K" (erasing (codes "DECSEL") (erase_in_line_any k true))
    ∷ row "h" (modal (codes "SM") (private_modes_any k) true)
    ∷ row "l" (modal (codes "RM") (private_modes_any k) false)
    ∷ row "n" (reporting (codes "DSR") private_reports)
    ∷ []

-- control sequences with the marker `>`
abbrev pub greater_sequences_any : {C B : Type 0} → KindOf C B → FunctionTableOf C B
greater_sequences_any k = row "c" (reporting (codes "DA") secondary_reports) ∷ []

-- control sequences with the intermediate `"`
abbrev pub quote_sequences_any : {C B : Type 0} → KindOf C B → FunctionTableOf C B
quote_sequences_any k =
    row "p" (of_pair is_level (paired (codes "DECSCL") (conformance_level_any k)))
    ∷ row "q" (of_first (0 ∷ 1 ∷ 2 ∷ []) (selected (codes "DECSCA") (select_protection_any k)))
    ∷ []

-- control sequences with the intermediate `!`
abbrev pub exclamation_sequences_any : {C B : Type 0} → KindOf C B → FunctionTableOf C B
exclamation_sequences_any k = row "p" (plain (codes "DECSTR") (soft_reset_any k)) ∷ []

abbrev pub table_after : {C B : Type 0} → List (ℕ × FunctionTableOf C B) → ℕ → FunctionTableOf C B
table_after tables b = unwrap_or (look_up tables b) []

-- the tables by the marker
abbrev pub marker_tables_any : {C B : Type 0} → KindOf C B → List (ℕ × FunctionTableOf C B)
marker_tables_any k = row "?" (private_sequences_any k) ∷ row ">" (greater_sequences_any k) ∷ []

-- the tables by the intermediate
abbrev pub intermediate_tables_any : {C B : Type 0} → KindOf C B → List (ℕ × FunctionTableOf C B)
intermediate_tables_any k = (0x22, quote_sequences_any k) ∷ row "!" (exclamation_sequences_any k) ∷ []

-- the table by the marker and the intermediate (ECMA-48 5.4); no sequence with both has a function
unfoldable pub sequences_any : {C B : Type 0} → KindOf C B → Option ℕ → Option ℕ → FunctionTableOf C B
sequences_any k None None = plain_sequences_any k
sequences_any k (Some marker) None = table_after (marker_tables_any k) marker
sequences_any k None (Some inter) = table_after (intermediate_tables_any k) inter
sequences_any k (Some marker) (Some inter) = []

-- the effect of what the table has for the final byte
unfoldable pub sequence_in : {C B : Type 0} → FunctionTableOf C B → ℕ → List ℕ → DisplayOf C B → DisplayOf C B
sequence_in table last params = (function_in table last).effect params

-- ---- the effect of an event

abbrev pub effect_any : {C B : Type 0} → KindOf C B → Event → DisplayOf C B → DisplayOf C B
effect_any k (Print b) = print_any k b
effect_any k (Control b) = control_any k b
effect_any k (Escape None last) = plain_escape_any k last
effect_any k (Escape (Some inter) last) = escape_with_any k inter last
effect_any k (Sequence marker params inter last) = sequence_in (sequences_any k marker inter) last params.items

-- ---- on a VT220

abbrev pub Function : Type 0
Function = FunctionOf Cell Brush

abbrev pub FunctionTable : Type 0
FunctionTable = FunctionTableOf Cell Brush

abbrev pub controls : FunctionTable
controls = controls_any vt220_kind

abbrev pub plain_escapes : FunctionTable
plain_escapes = plain_escapes_any vt220_kind

abbrev pub space_escapes : FunctionTable
space_escapes = space_escapes_any vt220_kind

abbrev pub number_sign_escapes : FunctionTable
number_sign_escapes = number_sign_escapes_any vt220_kind

abbrev pub plain_sequences : FunctionTable
plain_sequences = plain_sequences_any vt220_kind

abbrev pub private_sequences : FunctionTable
private_sequences = private_sequences_any vt220_kind

abbrev pub greater_sequences : FunctionTable
greater_sequences = greater_sequences_any vt220_kind

abbrev pub quote_sequences : FunctionTable
quote_sequences = quote_sequences_any vt220_kind

abbrev pub exclamation_sequences : FunctionTable
exclamation_sequences = exclamation_sequences_any vt220_kind

abbrev pub escape_tables : List (ℕ × (ℕ → Function))
escape_tables = escape_tables_any vt220_kind

abbrev pub marker_tables : List (ℕ × FunctionTable)
marker_tables = marker_tables_any vt220_kind

abbrev pub intermediate_tables : List (ℕ × FunctionTable)
intermediate_tables = intermediate_tables_any vt220_kind

abbrev pub escape_function : ℕ → ℕ → Function
escape_function inter last = escape_function_any vt220_kind inter last

abbrev pub control : ℕ → Display → Display
control b = control_any vt220_kind b

abbrev pub plain_escape : ℕ → Display → Display
plain_escape last = plain_escape_any vt220_kind last

abbrev pub escape_with : ℕ → ℕ → Display → Display
escape_with inter last = escape_with_any vt220_kind inter last

abbrev pub sequences_of : Option ℕ → Option ℕ → FunctionTable
sequences_of marker inter = sequences_any vt220_kind marker inter

abbrev pub effect : Event → Display → Display
effect event = effect_any vt220_kind event
