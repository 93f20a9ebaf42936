-- The name of an event, as the tables of functions have it. On another screen than a VT220's other margins have an
-- effect, so the name may depend on the number of rows. (the mnemonics of EK-VT220-RM, chapter 4)
use Rattle.std.specs.Prelude.{ℕ, List, [], ◌∷◌, Option, Some, None, codes, if◌then◌else◌}
use Rattle.vt_syntax.specs.declared.event.Event.{Event}
use Rattle.vt_syntax.specs.declared.event.Event.TheVariants.{Print, Control, Escape, Sequence}
use Rattle.vt_glyph.specs.Invocation.{has_no_glyph}
use Rattle.vt_screen.specs.Grid.{last_row}
use Rattle.vt_term.specs.Functions.{Function, function_in, controls, plain_escapes, escape_function, sequences_of}

-- the name of a function, if it takes these values on a screen of so many rows
abbrev pub name_with : ℕ → List ℕ → Function → Option (List ℕ)
name_with rows values f = if f.takes rows values then Some f.name else None

-- the name of a graphic byte, if it has a glyph
abbrev pub print_name : ℕ → Option (List ℕ)
print_name b = if has_no_glyph b then None else Some (codes "text")

unfoldable pub control_name : ℕ → Option (List ℕ)
control_name b = name_with last_row (0 ∷ []) (function_in controls b)

unfoldable pub plain_escape_name : ℕ → Option (List ℕ)
plain_escape_name last = name_with last_row [] (function_in plain_escapes last)

unfoldable pub escape_with_name : ℕ → ℕ → Option (List ℕ)
escape_with_name inter last = name_with last_row [] (escape_function inter last)

abbrev pub escape_name : Option ℕ → ℕ → Option (List ℕ)
escape_name None last = plain_escape_name last
escape_name (Some inter) last = escape_with_name inter last

unfoldable pub sequence_name_on : ℕ → Option ℕ → Option ℕ → ℕ → List ℕ → Option (List ℕ)
sequence_name_on rows marker inter last values = name_with rows values (function_in (sequences_of marker inter) last)

-- an event without a name is ignored
abbrev pub name_on : ℕ → Event → Option (List ℕ)
name_on rows (Print b) = print_name b
name_on rows (Control b) = control_name b
name_on rows (Escape inter last) = escape_name inter last
name_on rows (Sequence marker params inter last) = sequence_name_on rows marker inter last params.items

-- ---- on a VT220

abbrev pub sequence_name : Option ℕ → Option ℕ → ℕ → List ℕ → Option (List ℕ)
sequence_name marker inter last values = sequence_name_on last_row marker inter last values

abbrev pub name_of : Event → Option (List ℕ)
name_of event = name_on last_row event
