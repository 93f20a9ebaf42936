-- All names of events (this profile). The names themselves are in the tables of functions.
use Rattle.std.specs.Prelude.{ℕ, ◌+◌, List, [], ◌∷◌, ◌++◌, codes, get_or, map, take}
use denote.Enum.Declared.{tag_of}
use Rattle.vt_glyph.specs.Designation.{finals}
use Rattle.vt_term.specs.Functions.{FunctionTable, set_name, controls, plain_escapes, space_escapes, number_sign_escapes}
use Rattle.vt_term.specs.Functions.{plain_sequences, private_sequences, quote_sequences, exclamation_sequences}
use Rattle.vt_trace.specs.declared.functions.TheConstants.{SEQUENCES}
use Rattle.vt_trace.specs.declared.functions.Basic.{Basic}
use Rattle.vt_trace.specs.contracts.functions.Basic.{the_type as basic}
use Rattle.vt_trace.specs.declared.functions.Sequence.{Sequence}
use Rattle.vt_trace.specs.contracts.functions.Sequence.{the_type as sequence}
use Rattle.vt_trace.specs.declared.functions.Slot.{Slot}
use Rattle.vt_trace.specs.declared.functions.Slot.TheVariants.{G0, G1, G2, G3}
use Rattle.vt_trace.specs.declared.functions.ControlFunction.{ControlFunction}
use Rattle.vt_trace.specs.declared.functions.ControlFunction.TheVariants as function

-- ---- all names

abbrev pub names_in : FunctionTable → List (List ℕ)
names_in table = map (λ row. row.1.name) table

-- the names of SCS: one for each set
abbrev pub designation_names : List ℕ → List (List ℕ)
designation_names begins = map (λ row. begins ++ set_name row.1) finals

-- all names, in the order of the tables. Of those after `?`, the first two alone aren't in another table
abbrev pub names : List (List ℕ)
names =
    codes "text"
    ∷ (names_in controls
    ++ (names_in plain_escapes
    ++ (names_in space_escapes
    ++ (names_in number_sign_escapes
    ++ (designation_names (codes "SCS G0 ")
    ++ (designation_names (codes "SCS G1 ")
    ++ (designation_names (codes "SCS G2 ")
    ++ (designation_names (codes "SCS G3 ")
    ++ (names_in plain_sequences
    ++ (names_in (take 2 private_sequences)
    ++ (names_in quote_sequences
    ++ names_in exclamation_sequences)))))))))))

abbrev pub numbered : ℕ → List ℕ
numbered number = get_or names number []

-- ---- the functions of the code; private contracts alone speak of them

abbrev pub slot_begins : Slot → List ℕ
slot_begins G0 = codes "SCS G0 "
slot_begins G1 = codes "SCS G1 "
slot_begins G2 = codes "SCS G2 "
slot_begins G3 = codes "SCS G3 "

-- the variants are in the order of the names
abbrev pub basic_word : Basic → List ℕ
basic_word f = numbered (tag_of basic f)

abbrev pub sequence_word : Sequence → List ℕ
sequence_word f = numbered (SEQUENCES + tag_of sequence f)

abbrev pub word_of : ControlFunction → List ℕ
word_of (function.Basic f) = basic_word f
word_of (function.Scs slot set) = slot_begins slot ++ set_name set
word_of (function.Sequence f) = sequence_word f
