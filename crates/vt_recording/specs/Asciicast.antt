-- A recording by asciinema: a line with an object, and events, one a line, or one object with all of it. (the formats
-- asciicast 2 and 3, and asciicast 1)
use Rattle.std.specs.Prelude.{ℕ, ◌+◌, ◌∷◌, [], ◌^◌, ◌-◌, ◌||◌, ◌&&◌, min, List, length, drop, Bool, true, false, cond, codes}
use Rattle.std.specs.Prelude.{Option, Some, None, is_some, option_map, option_and_then, nat_eq, bytes_eq}
use Rattle.std.specs.List.{starts_with, prefix_len}
use Rattle.std.specs.Str.Lossy.{utf8_valid_len}
use Rattle.std.specs.Char.{is_ascii_whitespace}
use Rattle.json.specs.Token.{Token}
use Rattle.json.specs.Token as token
use Rattle.json.specs.Lex.{tokens}
use Rattle.json.specs.Json.{Json, array, Items, document}
use Rattle.json.specs.Find.{get, at as nth, as_number, as_str}
use Rattle.vt_recording.specs.Script.{begins_with}
use Rattle.vt_recording.specs.Seconds.{micros_of_number, risen}

-- ---- the beginning

abbrev pub trimmed : List ℕ → List ℕ
trimmed text = drop (prefix_len is_ascii_whitespace text) text

abbrev pub without_mark : List ℕ → List ℕ
without_mark bytes = cond (begins_with (0xEF ∷ 0xBB ∷ 0xBF ∷ []) bytes) (drop 3 bytes) bytes

-- what follows a byte order mark of UTF-8 and white space, if there are any (RFC 8259 8.1: a reader may ignore the
-- mark)
abbrev pub json_text : List ℕ → List ℕ
json_text bytes = trimmed (without_mark bytes)

-- how many bytes come before this text
abbrev pub start_of : List ℕ → ℕ
start_of bytes = length bytes - length (json_text bytes)

-- ---- the first line

-- the version that an object names, if it is 2 or 3
abbrev pub version_of : Json → Option ℕ
version_of header =
    option_and_then
    (λ text. cond (bytes_eq text (codes "2")) (Some 2) (cond (bytes_eq text (codes "3")) (Some 3) None))
    (option_and_then as_number (get (codes "version") header))

-- the line is UTF-8
abbrev pub is_text : List ℕ → Bool
is_text line = nat_eq (utf8_valid_len line) (length line)

-- the JSON text that a line is
abbrev pub document_in : List ℕ → Option Json
document_in line = cond (is_text line) (document line) None

abbrev pub version_in : List ℕ → Option ℕ
version_in line = option_and_then version_of (document_in line)

-- ---- an event

-- a time in microseconds, its code, and its text
abbrev pub Event : Type 0
Event = ℕ × List ℕ × List ℕ

abbrev pub begins_array : Token → Bool
begins_array token.begin_array = true
begins_array _ = false

abbrev pub ends_array : Token → Bool
ends_array token.end_array = true
ends_array _ = false

abbrev pub number_in : Token → Option (List ℕ)
number_in (token.number s) = Some s
number_in _ = None

abbrev pub string_in : Token → Option (List ℕ)
string_in (token.string s) = Some s
string_in _ = None

-- the event of a time, a code and a text
abbrev pub event_from : (time code text : Option (List ℕ)) → Option Event
event_from time code text =
    option_and_then
    (λ micros. option_and_then (λ c. option_map (λ t. (micros, c, t)) text) code)
    (option_and_then micros_of_number time)

-- an array of a number and two strings
abbrev pub event_of : List Token → Option Event
event_of (a ∷ time ∷ code ∷ text ∷ e ∷ []) =
    cond (begins_array a && ends_array e) (event_from (number_in time) (string_in code) (string_in text)) None
event_of _ = None

abbrev pub event_in : List ℕ → Option Event
event_in line = cond (is_text line) (event_of (tokens line)) None

-- a line without an event: an empty one, and in version 3 a comment
abbrev pub is_silent : (version : ℕ) → List ℕ → Bool
is_silent version line = nat_eq (length line) 0 || (nat_eq version 3 && starts_with nat_eq line (0x23 ∷ []))

-- ---- the lines after the first

-- the time of an event: in version 2 its number counts from the beginning, in versions 1 and 3 from the event before. It
-- stops at 2^64 - 1 (this profile)
abbrev pub clock_after : (version clock micros : ℕ) → ℕ
clock_after version clock micros = cond (nat_eq version 2) (risen clock micros) (min (clock + micros) (2 ^ 64 - 1))

-- the time after a line, if that doesn't break the format
abbrev pub time_behind : (silent : Bool) → Option Event → (version clock : ℕ) → Option ℕ
time_behind true event version clock = Some clock
time_behind false None version clock = None
time_behind false (Some e) version clock = Some (clock_after version clock e.0)

-- ---- version 1: one object, whose `stdout` is an array of frames

-- a frame is an array of a number and a string, and is output
abbrev pub frame_of : Json → Option Event
frame_of value =
    cond (is_some (nth 2 value)) None
    (event_from (option_and_then as_number (nth 0 value)) (Some (codes "o")) (option_and_then as_str (nth 1 value)))

abbrev pub is_one : Option (List ℕ) → Bool
is_one None = false
is_one (Some number) = bytes_eq number (codes "1")

abbrev pub names_one : Json → Bool
names_one value = is_one (option_and_then as_number (get (codes "version") value))

abbrev pub items_in : Json → Option Items
items_in (array items) = Some items
items_in _ = None

abbrev pub frames_of : Json → Option Items
frames_of value = cond (names_one value) (option_and_then items_in (get (codes "stdout") value)) None

-- the frames of a text
abbrev pub frames_in : List ℕ → Option Items
frames_in text = option_and_then frames_of (document_in text)
