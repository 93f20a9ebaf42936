-- The table of a recording's events: a line for each. (this profile)
use Rattle.std.specs.Prelude.{ℕ, ◌+◌, ◌/◌, ◌%◌, ◌++◌, ◌∷◌, ◌&&◌, [], List, length, codes, decimal, Bool, true, false, not, cond, nat_le}
use Rattle.std.specs.Prelude.{Option, Some, None}
use Rattle.vt_trace.specs.Lines.{shown}
use Rattle.vt_recording.specs.declared.format.Format.{Format}
use Rattle.vt_recording.specs.Format.{has_times}
use Rattle.vt_recording.specs.declared.format.Moment.{Moment}
use Rattle.vt_recording.specs.declared.format.Encoding.TheVariants.{Utf8}
use Rattle.vt_device.specs.declared.fault.Break.{Break}
use Rattle.vt_device.specs.declared.fault.Part.{Part}
use Rattle.vt_device.specs.declared.fault.Part.TheVariants.{Recording, Timing}
use Rattle.vt_recording.specs.declared.format.TerminalType.{TerminalType}
use Rattle.vt_recording.specs.declared.format.TerminalType.TheVariants.{Vt220, Xterm}
use Rattle.vt_recording.specs.declared.heading.Heading.{Heading}
use Rattle.vt_recording.specs.declared.timeline.EventKind.{EventKind}
use Rattle.vt_recording.specs.declared.timeline.EventKind.TheVariants.{Output, Input, Marker, Size, Exit}
use Rattle.vt_recording.specs.Timeline.{Event, Timeline, is_output}
use Rattle.vt_recording.specs.Reached.{has_characters, nothing_passed, passed, due}

abbrev pub kind_name : EventKind → List ℕ
kind_name Output = codes "output"
kind_name Input = codes "input"
kind_name Marker = codes "marker"
kind_name Size = codes "size"
kind_name Exit = codes "exit"

abbrev pub digit : ℕ → ℕ
digit n = 0x30 + n % 10

-- the six digits of the microseconds of a second
abbrev pub six_digits : ℕ → List ℕ
six_digits n =
    digit (n / 100000) ∷ digit (n / 10000) ∷ digit (n / 1000) ∷ digit (n / 100) ∷ digit (n / 10) ∷ digit n ∷ []

-- the seconds and six decimals, or `-` in a format without times
abbrev pub time_column : (timed : Bool) → (micros : ℕ) → List ℕ
time_column true micros = decimal (micros / 1000000) ++ 0x2E ∷ six_digits (micros % 1000000)
time_column false micros = codes "-"

-- the bytes of an event. Those of output are there in a full table alone
abbrev pub text_column : (full : Bool) → EventKind → (text : List ℕ) → List ℕ
text_column full kind text = cond (is_output kind && not full) [] (0x09 ∷ shown text)

-- the line of an event: its time, its kind, its place, the number of its bytes and the bytes, with TAB between them,
-- and LF
abbrev pub event_line : (timed full : Bool) → (place : ℕ) → Event → List ℕ
event_line timed full place e =
    time_column timed e.micros
    ++ (0x09 ∷ (kind_name e.kind ++ (0x09 ∷ (decimal place ++ (0x09 ∷ (decimal (length e.text) ++ (text_column full e.kind e.text ++ 0x0A ∷ [])))))))

-- ---- what a full table has besides events: a line of such a thing begins with its name

abbrev pub terminal_line : Option TerminalType → List ℕ
terminal_line None = []
terminal_line (Some Vt220) = codes "terminal" ++ 0x09 ∷ (codes "vt220" ++ 0x0A ∷ [])
terminal_line (Some Xterm) = codes "terminal" ++ 0x09 ∷ (codes "xterm" ++ 0x0A ∷ [])

-- the line of the size: the columns and the rows
abbrev pub window_line : (columns rows : Option ℕ) → List ℕ
window_line None rows = []
window_line (Some columns) None = []
window_line (Some columns) (Some rows) = codes "window" ++ 0x09 ∷ (decimal columns ++ 0x09 ∷ (decimal rows ++ 0x0A ∷ []))

abbrev pub heading_lines : (full : Bool) → Heading → List ℕ
heading_lines false heading = []
heading_lines true heading = terminal_line heading.terminal ++ window_line heading.columns heading.rows

abbrev pub part_name : Part → List ℕ
part_name Recording = codes "recording"
part_name Timing = codes "timing"

-- the line of a break: the file that breaks its format, and the place there
abbrev pub break_line : (full : Bool) → Option Break → List ℕ
break_line full None = []
break_line false (Some place) = []
break_line true (Some place) = codes "broken" ++ 0x09 ∷ (part_name place.part ++ 0x09 ∷ (decimal place.at ++ 0x0A ∷ []))

-- ---- the lines of events

-- the place of what comes after an event
abbrev pub place_after : (place : ℕ) → Event → ℕ
place_after place e = cond (is_output e.kind) (place + length e.text) place

-- the lines of events, the first one that is asked for and those after it, by the index of an event and its place in the content
unfoldable pub table : (timed full : Bool) → (first i place : ℕ) → List Event → List ℕ
table timed full first i place [] = []
table timed full first i place (e ∷ events) =
    cond (nat_le first i) (event_line timed full place e) [] ++ table timed full first (i + 1) (place_after place e) events

-- the table of a recording's events between two moments
abbrev pub event_table : Format → (timed full : Bool) → (from until : Option Moment) → Heading → Timeline → List ℕ
event_table format timed full from until heading t =
    let characters = has_characters format Utf8 in
    (heading_lines full heading
    ++ table (has_times format timed) full (passed false characters from nothing_passed t.events).events 0 0 (due characters until t.events))
    ++ break_line full t.broken
