-- The options that say how the input was recorded. (this profile)
use Rattle.std.specs.Prelude.{List, [], ◌∷◌, ◌++◌, codes, Bool, true, false, not, ◌&&◌, ◌||◌, cond, Option, Some, None, Result, Ok, Err}
use Rattle.std.specs.Prelude.{bytes_eq, is_some, nat_eq, nat_lt, ℕ, ◌+◌, take, drop, option_map, option_and_then}
use Rattle.clap.specs.Words.{Row, Text, first_of}
use Rattle.vt_recording.specs.declared.format.Format.{Format}
use Rattle.vt_recording.specs.declared.format.Format.TheVariants.{Raw, Script}
use Rattle.vt_recording.specs.Format as format
use Rattle.vt_recording.specs.declared.format.Encoding.{Encoding}
use Rattle.vt_recording.specs.declared.format.Encoding.TheVariants.{Dec, Utf8}
use Rattle.vt_recording.specs.declared.format.Moment.{Moment}
use Rattle.vt_recording.specs.declared.format.Moment.TheVariants.{Micros, Bytes, Event, Marker}
use Rattle.vt_recording.specs.declared.format.TerminalType.{TerminalType}
use Rattle.vt_recording.specs.declared.format.TerminalType.TheVariants.{Vt220, Xterm}
use Rattle.vt_recording.specs.Seconds.{number}
use Rattle.vt_screen.specs.declared.size.Size.{Size}
use Rattle.vt_cli.specs.declared.source.Source.{Source}
use Rattle.vt_cli.specs.declared.source.Screen.{Screen}
use Rattle.vt_cli.specs.declared.source.Complaint.{Complaint}
use Rattle.vt_cli.specs.declared.source.Complaint.TheVariants.{NoFormat, NoTimingFile, NoMoment, NoTimes, NoStart, NoEncoding}
use Rattle.vt_cli.specs.declared.source.Complaint.TheVariants.{NoTerminal, NoColumns, OnlyUtf8, NoSize, TwoSizes, OneSize}
use Rattle.vt_cli.specs.Moment.{place, moment}

-- the format of a name, or none for the name that lets the beginning of the input decide
abbrev pub format_or_auto : Text → Option Format → Result (Option Format) Complaint
format_or_auto name (Some f) = Ok (Some f)
format_or_auto name None = cond (bytes_eq name (codes "auto")) (Ok None) (Err NoFormat)

abbrev pub format_named : Text → Result (Option Format) Complaint
format_named name = format_or_auto name (format.format_named name)

-- the four words of a terminal's own state and answers play the bytes as they are. For all others the program decides
abbrev pub plays_as_it_is : (command : Text) → Bool
plays_as_it_is command =
    bytes_eq command (codes "text") || (bytes_eq command (codes "reports") || (bytes_eq command (codes "repaint") || bytes_eq command (codes "status")))

-- the format without a name: script's, if there is a timing file
abbrev pub usual_format : (command : Text) → (timed : Bool) → Option Format
usual_format command timed = cond timed (Some Script) (cond (plays_as_it_is command) (Some Raw) None)

-- the format that was named, next to a timing file if there is one: that is script's
abbrev pub with_timing : (timed : Bool) → Option Format → Result (Option Format) Complaint
with_timing timed (Some f) = cond (timed && not (format.takes_timing f)) (Err NoTimingFile) (Ok (Some f))
with_timing timed None = Ok (cond timed (Some Script) None)

-- the recording has times. If its beginning decides on the format, it may have some
abbrev pub has_times : Option Format → (timed : Bool) → Bool
has_times (Some f) timed = format.has_times f timed
has_times None timed = true

-- the recording has the moment
abbrev pub has_moment : Option Format → (timed : Bool) → Moment → Bool
has_moment format timed (Micros n) = has_times format timed
has_moment format timed (Bytes n) = true
has_moment format timed (Event n) = true
has_moment format timed (Marker n) = true

-- the moment that `--from` or `--until` gives
abbrev pub moment_given : Option Format → (timed : Bool) → Option Moment → Result (Option Moment) Complaint
moment_given format timed None = Err NoMoment
moment_given format timed (Some m) = cond (has_moment format timed m) (Ok (Some m)) (Err NoTimes)

abbrev pub moment_of : Option Format → (timed : Bool) → Option Text → Result (Option Moment) Complaint
moment_of format timed None = Ok None
moment_of format timed (Some text) = moment_given format timed (moment text)

-- the command of this name takes a part of a recording that begins in the middle. For a screen all that comes before counts
abbrev pub takes_start : Text → Bool
takes_start command = bytes_eq command (codes "events") || bytes_eq command (codes "content")

abbrev pub from_of : (command : Text) → Option Format → (timed : Bool) → Option Text → Result (Option Moment) Complaint
from_of command format timed None = Ok None
from_of command format timed (Some text) =
    cond (takes_start command) (moment_of format timed (Some text)) (Err NoStart)

-- ---- the encoding

-- the encoding of a name, or none for the name that lets the terminal and the format decide
abbrev pub encoding_named : (name : Text) → Result (Option Encoding) Complaint
encoding_named name =
    cond (bytes_eq name (codes "dec")) (Ok (Some Dec))
    (cond (bytes_eq name (codes "utf-8")) (Ok (Some Utf8)) (cond (bytes_eq name (codes "auto")) (Ok None) (Err NoEncoding)))

-- the encoding with a name; without a name none is asked for
abbrev pub encoding_of : Option Text → Result (Option Encoding) Complaint
encoding_of None = Ok None
encoding_of (Some name) = encoding_named name

-- ---- the terminal

-- xterm, for the encoding that was asked for: it reads UTF-8
abbrev pub xterm_for : Option Encoding → Result (Option TerminalType) Complaint
xterm_for (Some Dec) = Err OnlyUtf8
xterm_for (Some Utf8) = Ok (Some Xterm)
xterm_for None = Ok (Some Xterm)

-- the terminal of a name, for an encoding, or none for the name that lets the recording decide
abbrev pub terminal_named : Option Encoding → (name : Text) → Result (Option TerminalType) Complaint
terminal_named encoding name =
    cond (bytes_eq name (codes "vt220")) (Ok (Some Vt220))
    (cond (bytes_eq name (codes "xterm")) (xterm_for encoding)
    (cond (bytes_eq name (codes "auto")) (Ok None) (Err NoTerminal)))

-- the terminal with a name; without a name the recording decides
abbrev pub terminal_of : Option Encoding → Option Text → Result (Option TerminalType) Complaint
terminal_of encoding None = Ok None
terminal_of encoding (Some name) = terminal_named encoding name

-- ---- the columns

-- whether a number of columns is 132, or none for the name that lets the recording decide
abbrev pub wide_named : (name : Text) → Result (Option Bool) Complaint
wide_named name =
    cond (bytes_eq name (codes "80")) (Ok (Some false))
    (cond (bytes_eq name (codes "132")) (Ok (Some true)) (cond (bytes_eq name (codes "auto")) (Ok None) (Err NoColumns)))

-- whether a number of columns is 132; without a number the recording decides
abbrev pub wide_of : Option Text → Result (Option Bool) Complaint
wide_of None = Ok None
wide_of (Some name) = wide_named name

-- what follows if there is no complaint
abbrev pub and_then : {A B : Type 0} → (A → Result B Complaint) → Result A Complaint → Result B Complaint
and_then next (Ok value) = next value
and_then next (Err complaint) = Err complaint

-- ---- the size

-- the size of so many rows of so many columns, if a screen may have it. Its narrow and its wide screen are of one width
abbrev pub size_of : (columns rows : ℕ) → Option Size
size_of columns rows =
    cond (nat_lt 1 columns && (nat_lt columns 256 && (nat_lt 1 rows && nat_lt rows 256)))
    (Some (record { rows = rows; narrow = columns; wide = columns })) None

-- a VT220's screen is asked for by its width, any other one by its size
abbrev pub screen_at : (columns rows : ℕ) → Option Screen
screen_at columns rows =
    cond (nat_eq rows 24 && nat_eq columns 80) (Some (record { wide = Some false; size = None }))
    (cond (nat_eq rows 24 && nat_eq columns 132) (Some (record { wide = Some true; size = None }))
    (option_map (λ size. record { wide = None; size = Some size }) (size_of columns rows)))

-- the screen of a size's text, by the place of the first `x`: up to three digits before it and after it
abbrev pub screen_parts : Option ℕ → List ℕ → Option Screen
screen_parts None text = None
screen_parts (Some at) text =
    option_and_then (λ columns. option_and_then (λ rows. screen_at columns rows) (number 3 (drop (at + 1) text)))
    (number 3 (take at text))

abbrev pub screen_in : List ℕ → Option Screen
screen_in text = screen_parts (place 0x78 text) text

abbrev pub screen_found : Option Screen → Result Screen Complaint
screen_found (Some screen) = Ok screen
screen_found None = Err NoSize

-- the screen of a size's text, or of the name that lets the recording decide
abbrev pub screen_named : (text : Text) → Result Screen Complaint
screen_named text =
    cond (bytes_eq text (codes "auto")) (Ok (record { wide = None; size = None }))
    (screen_found (screen_in text))

-- the screen by the width that `--columns` asks for, and the text of `--size`. Only one of the two may be given
abbrev pub screen_with : (wide : Option Bool) → (size : Option Text) → Result Screen Complaint
screen_with wide None = Ok (record { wide = wide; size = None })
screen_with None (Some text) = screen_named text
screen_with (Some wide) (Some text) = Err TwoSizes

-- the command of this name plays a VT220's screen alone, or none
abbrev pub has_one_size : (command : Text) → Bool
has_one_size command =
    bytes_eq command (codes "events") || bytes_eq command (codes "content")

-- a size that isn't a VT220's is for a command that plays it
abbrev pub screen_for : (command : Text) → Screen → Result Screen Complaint
screen_for command screen = cond (is_some screen.size && has_one_size command) (Err OneSize) (Ok screen)

abbrev pub screen_of : (command : Text) → (columns size : Option Text) → Result Screen Complaint
screen_of command columns size =
    and_then (λ wide. and_then (λ screen. screen_for command screen) (screen_with wide size)) (wide_of columns)

-- ---- all of them

-- the format with a name, otherwise the usual one of the command
abbrev pub format_for : (command : Text) → (timed : Bool) → Option Text → Result (Option Format) Complaint
format_for command timed None = Ok (usual_format command timed)
format_for command timed (Some name) = and_then (λ format. with_timing timed format) (format_named name)

-- the source by the name of the command and the texts of the options. `timed` is whether there is a timing file
abbrev pub source_of : (command : Text) → (format : Option Text) → (timed : Bool) → (from until encoding terminal columns size : Option Text)
    → Result Source Complaint
source_of command format timed from until encoding terminal columns size =
    and_then (λ format. and_then (λ from. and_then (λ until. and_then (λ encoding. and_then (λ terminal. and_then (λ screen. Ok (record {
      format = format;
      from = from;
      until = until;
      encoding = encoding;
      terminal = terminal;
      wide = screen.wide;
      size = screen.size;
    })) (screen_of command columns size)) (terminal_of encoding terminal)) (encoding_of encoding)) (moment_of format timed until))
    (from_of command format timed from))
    (format_for command timed format)

-- the source by a subcommand's name and matches
abbrev pub source_in : (command : Text) → List Row → Result Source Complaint
source_in command matches =
    source_of command (first_of (codes "format") matches) (is_some (first_of (codes "timing") matches))
    (first_of (codes "from") matches) (first_of (codes "until") matches) (first_of (codes "encoding") matches) (first_of (codes "terminal") matches)
    (first_of (codes "columns") matches) (first_of (codes "size") matches)

-- what is said of options that don't fit: the fault, and after some of them a line with a way out
abbrev pub line_of : Complaint → List ℕ
line_of NoFormat =
    codes "vt220: --format is raw, script, ttyrec or asciicast" ++ 0x0A ∷ codes "vt220: or it is auto: then the beginning of the input decides" ++ 0x0A ∷ []
line_of NoTimingFile = codes "vt220: --timing goes with --format script alone" ++ 0x0A ∷ []
line_of NoMoment = codes "vt220: a moment is seconds, as 12.5 or 12:31, bytes, as 4096b, event:N or marker:N" ++ 0x0A ∷ []
line_of NoStart = codes "vt220: --from goes with events and content alone" ++ 0x0A ∷ []
line_of NoTimes =
    codes "vt220: the input has no times; give the moment in bytes, as 4096b, or script its --timing FILE" ++ 0x0A ∷ codes "vt220: a recording by ttyrec or asciinema has times: add --format ttyrec, asciicast or auto" ++ 0x0A ∷ []
line_of NoEncoding = codes "vt220: --encoding is dec, utf-8 or auto" ++ 0x0A ∷ []
line_of NoTerminal = codes "vt220: --terminal is vt220, xterm or auto" ++ 0x0A ∷ []
line_of NoColumns = codes "vt220: --columns is 80, 132 or auto" ++ 0x0A ∷ []
line_of NoSize = codes "vt220: --size is columns and rows, as 120x40: 2 to 255 columns and 2 to 255 rows; or it is auto" ++ 0x0A ∷ []
line_of TwoSizes = codes "vt220: --size and --columns are given: one of the two is enough" ++ 0x0A ∷ []
line_of OneSize =
    codes "vt220: this command plays 80x24 and 132x24 alone" ++ 0x0A ∷ codes "vt220: all but events and content play any size" ++ 0x0A ∷ []
line_of OnlyUtf8 = codes "vt220: --terminal xterm reads UTF-8, and not --encoding dec" ++ 0x0A ∷ []
