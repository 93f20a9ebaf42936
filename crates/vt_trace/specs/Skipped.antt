-- The parts that are no event: the items of the split that have no function, and what is left at the end. (this profile)
use Rattle.std.specs.Prelude.{ℕ, List, [], ◌∷◌, ◌++◌, Bool, true, false, Option, Some, None}
use Rattle.std.specs.Prelude.{codes, length, nat_lt, take, if◌then◌else◌}
use Rattle.vt_syntax.specs.declared.event.Event.{Event}
use Rattle.vt_glyph.specs.LookUp.{look_up}
use Rattle.vt_trace.specs.Lines.{shown, line}

-- ---- kinds

-- a kind has the number of a byte that is no event: of CAN and DEL themselves, of ESC for a sequence that is cut off, of
-- CSI for one with its final byte, and of a string the C1 control that opens it
abbrev pub cut_sequence : ℕ
cut_sequence = 0x1B

abbrev pub spoilt_sequence : ℕ
spoilt_sequence = 0x9B

abbrev pub kind_names : List (ℕ × List ℕ)
kind_names =
    (cut_sequence, codes "cut sequence")
    ∷ (spoilt_sequence, codes "spoilt sequence")
    ∷ (0x90, codes "DCS string")
    ∷ (0x98, codes "SOS string")
    ∷ (0x9D, codes "OSC string")
    ∷ (0x9E, codes "PM string")
    ∷ (0x9F, codes "APC string")
    ∷ []

-- the name of a kind; CAN and DEL have none
unfoldable pub kind_name : ℕ → Option (List ℕ)
kind_name kind = look_up kind_names kind

abbrev pub is_empty : List Event → Bool
is_empty [] = true
is_empty (event ∷ events) = false

-- ---- lines

-- `ignored`, and the kind if it has a name
abbrev pub kind_column : ℕ → List ℕ
kind_column kind = codes "ignored" ++ elim (kind_name kind) [ None ↦ [] | Some name ↦ 0x20 ∷ name ]

-- the first 32 bytes as text, with `..` after them if there are more
abbrev pub first_column : List ℕ → List ℕ
first_column bytes = shown (take 32 bytes) ++ (if nat_lt 32 (length bytes) then codes ".." else [])

-- the line of an item without a function that began at a place
abbrev pub skipped_line : ℕ → ℕ → List ℕ → List ℕ
skipped_line place kind bytes = line place (kind_column kind) (first_column bytes)
