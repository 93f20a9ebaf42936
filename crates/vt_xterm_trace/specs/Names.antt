-- The names of events under TERM=xterm: those of the functions of these tables, otherwise a VT220's. (xterm's
-- control sequences: Functions using CSI; ECMA-48 8.3)
use Rattle.std.specs.Prelude.{ℕ, List, [], ◌∷◌, ◌++◌, Bool, true, false, Option, Some, None, ◌==◌, codes, if◌then◌else◌}
use Rattle.std.specs.List.{list_any}
use Rattle.vt_syntax.specs.declared.event.Event.TheVariants.{Print, Control, Escape, Sequence}
use Rattle.vt_glyph.specs.LookUp.{look_up, contains}
use Rattle.vt_term.specs.Rendition.{rendition_changes}
use Rattle.vt_term.specs.Modes.{private_modes}
use Rattle.vt_term.specs.Functions.{byte, row, numbers_of}
use Rattle.vt_term.specs.Names.{name_on, sequence_name_on}
use Rattle.vt_trace.specs.Lines.{Names}
use Rattle.vt_xterm.specs.Attributes.{without_colours}
use Rattle.vt_xterm.specs.Pages.{page_modes}
use Rattle.vt_xterm.specs.Bounded.{is_bare}

-- the name of a function with these values, and the values for which it has an effect; with others it is ignored
pub record Named : Type 0 where
  pub name : List ℕ → List ℕ
  pub takes : List ℕ → Bool

-- named functions by the final byte
abbrev pub NameTable : Type 0
NameTable = List (ℕ × Named)

-- a function of any values
abbrev pub always : List ℕ → Named
always name = record { name = λ values. name; takes = λ values. true }

-- a function, if the values pass the test
abbrev pub taking : (List ℕ → Bool) → List ℕ → Named
taking takes name = record { name = λ values. name; takes = takes }

-- a function of any values, named by them
abbrev pub naming : (List ℕ → List ℕ) → Named
naming name = record { name = name; takes = λ values. true }

-- `s`: SCP without parameters, otherwise DECSLRM, which has an effect under DECLRMM
abbrev pub saves_or_sets : List ℕ → List ℕ
saves_or_sets values = if is_bare values then codes "SCP" else codes "DECSLRM"

-- SD by `T`: one value
abbrev pub is_one : List ℕ → Bool
is_one [] = false
is_one (value ∷ []) = true
is_one (value ∷ (more ∷ values)) = false

-- SGR: one of the values outside colours is an attribute of a VT220
abbrev pub has_attribute : List ℕ → Bool
has_attribute values = list_any (contains (numbers_of rendition_changes)) (without_colours 0 values)

-- SM and RM after `?`: one of the values is a mode of xterm's pages, or a private mode of a VT220
abbrev pub has_mode : List ℕ → Bool
has_mode values = list_any (contains (numbers_of page_modes ++ numbers_of private_modes)) values

abbrev pub plain_names : NameTable
plain_names =
    row "E" (always (codes "CNL"))
    ∷ row "F" (always (codes "CPL"))
    ∷ row "G" (always (codes "CHA"))
    ∷ row "I" (always (codes "CHT"))
    ∷ row "L" (always (codes "IL"))
    ∷ row "M" (always (codes "DL"))
    ∷ row "S" (always (codes "SU"))
    ∷ row "T" (taking is_one (codes "SD"))
    ∷ row "Z" (always (codes "CBT"))
    ∷ row "^" (always (codes "SD"))
    ∷ row "`" (always (codes "HPA"))
    ∷ row "a" (always (codes "HPR"))
    ∷ row "b" (always (codes "REP"))
    ∷ row "d" (always (codes "VPA"))
    ∷ row "e" (always (codes "VPR"))
    ∷ row "m" (taking has_attribute (codes "SGR"))
    ∷ row "s" (naming saves_or_sets)
    ∷ row "u" (taking is_bare (codes "RCP"))
    ∷ []

-- control sequences with the marker `?`
abbrev pub private_names : NameTable
private_names = row "h" (taking has_mode (codes "SM")) ∷ row "l" (taking has_mode (codes "RM")) ∷ []

-- the table by the marker and the intermediate
abbrev pub names_of : Option ℕ → Option ℕ → NameTable
names_of None None = plain_names
names_of (Some marker) None = if marker == byte "?" then private_names else []
names_of None (Some inter) = []
names_of (Some marker) (Some inter) = []

-- the name, if the function takes the values
abbrev pub name_with : List ℕ → Named → Option (List ℕ)
name_with values f = if f.takes values then Some (f.name values) else None

-- the name that the table has for the final byte, otherwise a VT220's name
abbrev pub name_in : NameTable → ℕ → List ℕ → Option (List ℕ) → Option (List ℕ)
name_in table last values otherwise = elim (look_up table last) [ None ↦ otherwise | Some f ↦ name_with values f ]

unfoldable pub xterm_sequence_name : ℕ → Option ℕ → Option ℕ → ℕ → List ℕ → Option (List ℕ)
xterm_sequence_name rows marker inter last values =
    name_in (names_of marker inter) last values (sequence_name_on rows marker inter last values)

-- an event without a name is ignored
abbrev pub xterm_names : Names
xterm_names rows (Print b) = name_on rows (Print b)
xterm_names rows (Control b) = name_on rows (Control b)
xterm_names rows (Escape inter last) = name_on rows (Escape inter last)
xterm_names rows (Sequence marker params inter last) = xterm_sequence_name rows marker inter last params.items
