-- The facts that the beginning of a recording names of the terminal that it was made on. (asciicast 1, 2 and 3 of
-- asciinema; script(1) of util-linux)
use Rattle.std.specs.Prelude.{ℕ, ◌∷◌, ◌&&◌, List, [], length, take, drop, codes, Bool, false, cond, nat_eq}
use Rattle.std.specs.Prelude.{Option, Some, None, option_and_then, option_map}
use Rattle.std.specs.Option.{option_or}
use Rattle.std.specs.List.{ends_with, position}
use Rattle.std.specs.Char.{is_ascii_digit}
use Rattle.json.specs.Json.{Json}
use Rattle.json.specs.Find.{get, as_number, as_str}
use Rattle.vt_recording.specs.declared.format.Format.{Format}
use Rattle.vt_recording.specs.declared.format.Format.TheVariants as format
use Rattle.vt_recording.specs.declared.format.TerminalType.{TerminalType}
use Rattle.vt_recording.specs.declared.format.TerminalType.TheVariants.{Vt220, Xterm}
use Rattle.vt_recording.specs.declared.heading.Heading.{Heading}
use Rattle.vt_recording.specs.Lines.{front_line}
use Rattle.vt_recording.specs.Script.{begins_with, first_words, stripped}
use Rattle.vt_recording.specs.Seconds.{number}
use Rattle.vt_recording.specs.Asciicast.{json_text, document_in, version_of, names_one}

abbrev pub nothing : Heading
nothing = record { terminal = None; columns = None; rows = None }

abbrev pub begins_with_digit : List ℕ → Bool
begins_with_digit [] = false
begins_with_digit (byte ∷ text) = is_ascii_digit byte

-- `vt` and a digit name a VT220 or a terminal like it, as in vt100. All other names are an xterm's, but no name is none
-- (this profile)
abbrev pub is_vt : List ℕ → Bool
is_vt name = begins_with (codes "vt") name && begins_with_digit (drop 2 name)

abbrev pub terminal_named : List ℕ → Option TerminalType
terminal_named name = cond (nat_eq (length name) 0) None (cond (is_vt name) (Some Vt220) (Some Xterm))

-- the terminal of a TERM that is there
abbrev pub terminal_of : Option (List ℕ) → Option TerminalType
terminal_of name = option_and_then terminal_named name

-- the terminal of a recording by asciinema: without a TERM it is an xterm, since such a recording is made on one (this
-- profile)
abbrev pub cast_terminal : Option (List ℕ) → Option TerminalType
cast_terminal name = option_or (terminal_of name) (Some Xterm)

-- a number of at most nine digits
abbrev pub count_of : Option (List ℕ) → Option ℕ
count_of digits = option_and_then (number 9) digits

-- ---- asciicast

-- the text and the number of a member of a member
abbrev pub inner : (outer name : List ℕ) → Json → Option Json
inner outer name header = option_and_then (get name) (get outer header)

abbrev pub text_of : Option Json → Option (List ℕ)
text_of value = option_and_then as_str value

abbrev pub number_of : Option Json → Option ℕ
number_of value = count_of (option_and_then as_number value)

-- the header of version 3 (asciicast 3), and that of version 2 (asciicast 2)
abbrev pub by_term : Json → Heading
by_term header = record {
  terminal = cast_terminal (text_of (inner (codes "term") (codes "type") header));
  columns = number_of (inner (codes "term") (codes "cols") header);
  rows = number_of (inner (codes "term") (codes "rows") header);
}

abbrev pub by_env : Json → Heading
by_env header = record {
  terminal = cast_terminal (text_of (inner (codes "env") (codes "TERM") header));
  columns = number_of (get (codes "width") header);
  rows = number_of (get (codes "height") header);
}

abbrev pub by_version : Option ℕ → Json → Heading
by_version None header = nothing
by_version (Some version) header = cond (nat_eq version 3) (by_term header) (by_env header)

-- the header of version 1 has the members of version 2
abbrev pub in_header : Json → Heading
in_header header = cond (names_one header) (by_env header) (by_version (version_of header) header)

abbrev pub in_document : Option Json → Heading
in_document None = nothing
in_document (Some header) = in_header header

-- the object on the first line, or that of all lines, as in version 1
abbrev pub header_in : List ℕ → Option Json
header_in text = option_or (document_in (front_line text)) (document_in text)

-- ---- script: facts at the end of the line, as TERM="xterm" COLUMNS="80", after the command, which may have the same words

-- the text after the last place that has these words
unfoldable pub after_last : (words text : List ℕ) → Option (List ℕ)
after_last words [] = None
after_last words (byte ∷ text) = option_or (after_last words text) (stripped words (byte ∷ text))

abbrev pub quote_in : List ℕ → Option ℕ
quote_in text = position (λ b. nat_eq b 0x22) text

abbrev pub up_to_quote : List ℕ → Option (List ℕ)
up_to_quote text = option_map (λ at. take at text) (quote_in text)

abbrev pub fact : (name line : List ℕ) → Option (List ℕ)
fact name line = option_and_then up_to_quote (after_last name line)

-- a line that ends with another fact, as `<not executed on terminal>`, names nothing
abbrev pub in_line : List ℕ → Heading
in_line line =
    cond (begins_with first_words line && ends_with nat_eq line (codes "\"]"))
    (record {
      terminal = terminal_of (fact (codes "TERM=\"") line);
      columns = count_of (fact (codes "COLUMNS=\"") line);
      rows = count_of (fact (codes "LINES=\"") line);
    })
    nothing

-- ---- all: any other format, as raw bytes and a ttyrec, names nothing

abbrev pub heading_of : Format → List ℕ → Heading
heading_of format.Script bytes = in_line (front_line bytes)
heading_of format.Asciicast bytes = in_document (header_in (json_text bytes))
heading_of format bytes = nothing
