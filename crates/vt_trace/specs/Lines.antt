-- The line of an event. (this profile)
use Rattle.std.specs.Prelude.{ℕ, ◌+◌, ◌/◌, ◌%◌, List, [], ◌∷◌, ◌++◌, not, ◌==◌, ◌&&◌, Option, Some, None}
use Rattle.std.specs.Prelude.{if◌then◌else◌, nat_lt, codes, decimal}
use Rattle.std.specs.List.{flat_map}
use Rattle.std.specs.Option.{option_to_list}
use Rattle.vt_syntax.specs.declared.event.Event.{Event}
use Rattle.vt_syntax.specs.declared.event.Event.TheVariants.{Print, Control, Escape, Sequence}
use Rattle.vt_syntax.specs.Class.{is_plain}

-- ---- bytes as text

-- 0 to 9 and A to F
abbrev pub hex_digit : ℕ → ℕ
hex_digit n = if nat_lt n 10 then n + 0x30 else n + 0x37

-- 20 to 7E other than `\` is itself, and any other byte is `\x` and two hexadecimal digits
unfoldable pub shown_byte : ℕ → List ℕ
shown_byte b =
    if is_plain b && not (b == 0x5C) then b ∷ []
    else 0x5C ∷ 0x78 ∷ hex_digit (b / 16) ∷ hex_digit (b % 16) ∷ []

abbrev pub shown : List ℕ → List ℕ
shown bytes = flat_map shown_byte bytes

-- ---- columns

-- `;` and a value
abbrev pub further : ℕ → List ℕ
further value = 0x3B ∷ decimal value

-- values in decimal, with `;` between them
abbrev pub joined : List ℕ → List ℕ
joined [] = []
joined (value ∷ values) = decimal value ++ flat_map further values

-- the column of values: of a control sequence the marker and the values, of a graphic byte itself
abbrev pub values_column : Event → List ℕ
values_column (Print b) = shown_byte b
values_column (Control b) = []
values_column (Escape inter last) = []
values_column (Sequence marker params inter last) = option_to_list marker ++ joined params.items

-- the bytes of an event, with a C1 control in its 8-bit form and CSI in its 7-bit form
abbrev pub bytes_column : Event → List ℕ
bytes_column (Print b) = shown_byte b
bytes_column (Control b) = shown_byte b
bytes_column (Escape inter last) = codes "\\x1B" ++ (shown (option_to_list inter) ++ shown_byte last)
bytes_column (Sequence marker params inter last) =
    codes "\\x1B[" ++ (option_to_list marker ++ (joined params.items ++ (shown (option_to_list inter) ++ shown_byte last)))

-- ---- lines

-- the place in decimal, TAB, the name, TAB, a column, LF
abbrev pub line : ℕ → List ℕ → List ℕ → List ℕ
line place name column = decimal place ++ (0x09 ∷ (name ++ (0x09 ∷ (column ++ 0x0A ∷ []))))

-- the names of events on a screen of so many rows; an event without a name is ignored
abbrev pub Names : Type 0
Names = ℕ → Event → Option (List ℕ)

-- the line of an event with a name, or of one that is ignored
abbrev pub line_named : ℕ → Event → Option (List ℕ) → List ℕ
line_named place event (Some name) = line place name (values_column event)
line_named place event None = line place (codes "ignored") (bytes_column event)

-- the line of an event by these names, on a screen of so many rows
unfoldable pub event_line_by : Names → ℕ → ℕ → Event → List ℕ
event_line_by names rows place event = line_named place event (names rows event)
