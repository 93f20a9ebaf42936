-- The bytes that a request takes from its reader, and those that it gives to its writer. (this profile)
use Rattle.std.specs.Prelude.{◌≡◌, ◌⊎◌, ℕ, ◌+◌, ◌≤◌, ◌++◌, ◌&&◌, ◌||◌, List, [], length, Bool, true, false, not, is_some, Option, Some, None, Result, Ok, Err}
use Rattle.vt_device.specs.Runs.{Flags}
use Rattle.vt_cli.specs.declared.asked.Request.{Request}
use Rattle.vt_recording.specs.declared.format.Format.{Format}
use Rattle.vt_recording.specs.declared.format.Format.TheVariants as format
use Rattle.vt_recording.specs.declared.format.Encoding.{Encoding}
use Rattle.vt_recording.specs.Format.{has_times}
use Rattle.vt_recording.specs.declared.format.Moment.{Moment}
use Rattle.vt_recording.specs.declared.format.Moment.TheVariants.{Micros}
use Rattle.vt_recording.specs.declared.detection.Detected.{Detected}
use Rattle.vt_recording.specs.declared.detection.Detected.TheVariants.{Recording, Compressed}
use Rattle.vt_recording.specs.Detection.{detected}
use Rattle.vt_device.specs.declared.fault.Break.{Break}
use Rattle.vt_recording.specs.Heading.{heading_of}
use Rattle.vt_recording.specs.declared.heading.Heading.{Heading}
use Rattle.vt_recording.specs.Timeline.{Event, Timeline, IsTimelineOf}
use Rattle.vt_recording.specs.Taken.{IsShown, IsTaken}
use Rattle.vt_recording.specs.Reached.{has_characters, nothing_passed, due}
use Rattle.vt_recording.specs.Changes.{changes_in}
use Rattle.vt_replay.specs.declared.resized.Resize.{Resize}
use Rattle.vt_device.specs.declared.fault.Fault.{Fault}
use Rattle.vt_device.specs.declared.fault.Fault.TheVariants as fault
use Rattle.vt_recording.specs.Reading.{ReadTable}
use Rattle.vt_replay.specs.declared.requests.Outcome.{Outcome}
use Rattle.vt_replay.specs.declared.host.Host.{Host}
use Rattle.vt_replay.specs.Host.{host_for, plain_host, opening}
use Rattle.vt_replay.specs.Words.{WordTable}
use Rattle.vt_replay.specs.EventTable.{event_table}
use Rattle.vt_replay.specs.Resizes.{carried_out}
use Rattle.vt_cli.specs.declared.what.Word.{Word}
use Rattle.vt_cli.specs.declared.what.Word.TheVariants.{Replay, Log, Trace, Events}

-- 132 columns were asked for
abbrev pub asks_wide : Option Bool → Bool
asks_wide (Some wide) = wide
asks_wide None = false

-- the input is played as it comes: it is the host's bytes, all of them are wanted, no others come first, and nothing else
-- needs the whole of them
abbrev pub is_streamed : Format → Option Moment → (wide : Option Bool) → (whole : Bool) → Bool
is_streamed format.Raw None wide whole = not (asks_wide wide) && not whole
is_streamed format until wide whole = false

-- the word writes what is made of a whole recording: the table of its events
abbrev pub takes_whole : Word → Bool
takes_whole Events = true
takes_whole word = false

-- the word needs the whole input: it writes what is made of it, or begins in the middle
abbrev pub needs_whole : Request → Bool
needs_whole r = takes_whole r.word || is_some r.from

-- how a request ends: a fault of the word comes first, then that the recording is broken
abbrev pub ended_of : (broken : Option Break) → Result (Unit {0}) Fault → Result (Unit {0}) Fault
ended_of None (Ok u) = Ok u
ended_of (Some place) (Ok u) = Err (fault.Broken place)
ended_of broken (Err fault) = Err fault

-- the word was carried out on the input as it came
pub record IsStreamed (o : Outcome) (r : Request) (b w : List ℕ) (f : Flags) : Type 0 where
  pub table : WordTable o.ended r.word (plain_host r).size [] (plain_host r).terminal (plain_host r).encoding r.piece b w f r.limit
  pub none_replaced : o.replaced ≡ 0

-- the word was carried out on the content of a recording, of which c was played, from memory: no read fails. At the end
-- nothing is left. The request's limit is of the input. What is made of that may have as many bytes as any input
pub record IsPlayed (o : Outcome) (r : Request) (host : Host) (resizes : List Resize) (content : List ℕ) (broken : Option Break) (replaced : ℕ) (w : List ℕ)
    (writer_failed : Bool) : Type 0 where
  pub c : List ℕ
  pub rest : List ℕ
  pub joined : content ≡ c ++ rest
  pub at_end : Bool
  pub none_left : at_end ≡ true → rest ≡ []
  pub played : Result (Unit {0}) Fault
  pub table : WordTable played r.word host.size resizes host.terminal host.encoding r.piece c w (record { reader_failed = false; reader_ended = at_end; writer_failed = writer_failed }) 1099511627776
  pub ended : o.ended ≡ ended_of broken played
  pub replaces : o.replaced ≡ replaced

-- ---- changes of the size

-- only asciinema and script(1) write sizes
abbrev pub has_sizes : Format → Bool
has_sizes format.Script = true
has_sizes format.Asciicast = true
has_sizes format = false

-- the word carries out changes of the size
abbrev pub changes_size : Word → Bool
changes_size (Replay what) = true
changes_size Log = true
changes_size Trace = true
changes_size word = false

-- the screen keeps its size: one was asked for, or a width, or no change is carried out. A word that begins in the middle carries none out
abbrev pub keeps_size : Request → Format → Bool
keeps_size r format =
    is_some r.size || (is_some r.wide || (is_some r.from || (not (changes_size r.word) || not (has_sizes format))))

-- ---- what is taken out of a recording

-- what is taken out of a recording for a word: the table of its events, or its content
abbrev pub IsTakenBy : Word → Request → Format → (timed : Bool) → Host → Heading → Timeline → (content : List ℕ) → (replaced : ℕ) → Type 0
IsTakenBy Events r format timed host heading t content replaced =
    (content ≡ event_table format timed r.full r.from r.until heading t) × (replaced ≡ 0)
IsTakenBy word r format timed host heading t content replaced =
    IsTaken (has_characters format host.encoding) r.from r.until t.events content replaced

-- ---- what is played of a recording

-- the first changes among the events that are due, if the screen doesn't keep its size
abbrev pub resizes_for : (kept : Bool) → Request → Format → Host → List Event → List Resize
resizes_for true r format host events = []
resizes_for false r format host events =
    let characters = has_characters format host.encoding in
    carried_out (length (opening r.word host)) (changes_in characters nothing_passed (due characters r.until events))

-- what is played of a recording's events on a terminal: the opening and the content, and the changes of the size
pub record IsArranged (r : Request) (format : Format) (timed : Bool) (host : Host) (heading : Heading) (t : Timeline) (resizes : List Resize)
    (bytes : List ℕ) (replaced : ℕ) : Type 0 where
  pub content : List ℕ
  pub taken : IsTakenBy r.word r format timed host heading t content replaced
  pub joined : bytes ≡ opening r.word host ++ content
  pub resized : resizes ≡ resizes_for (keeps_size r format) r format host t.events

-- what is played of a recording
pub record IsPrepared (r : Request) (format : Format) (timing : Option (List ℕ)) (b : List ℕ) (host : Host) (resizes : List Resize)
    (bytes : List ℕ) (broken : Option Break) (replaced : ℕ) : Type 0 where
  pub timeline : Timeline
  pub is_of : IsTimelineOf format timing b timeline
  pub breaks : broken ≡ timeline.broken
  pub shown : Encoding
  pub shows : IsShown format timeline.events shown
  pub host_is : host ≡ host_for r shown (heading_of format b)
  pub arranged : IsArranged r format (is_some timing) host (heading_of format b) timeline resizes bytes replaced

-- the input was read whole and taken apart, and the word was carried out on what is played of it
pub record IsTakenApart (o : Outcome) (r : Request) (format : Format) (timing : Option (List ℕ)) (b w : List ℕ) (f : Flags) : Type 0 where
  pub reader_failed : f.reader_failed ≡ false
  pub reader_ended : f.reader_ended ≡ true
  pub within : length b ≤ r.limit
  pub host : Host
  pub resizes : List Resize
  pub bytes : List ℕ
  pub broken : Option Break
  pub replaced : ℕ
  pub prepared : IsPrepared r format timing b host resizes bytes broken replaced
  pub played : IsPlayed o r host resizes bytes broken replaced w f.writer_failed

-- the input wasn't read whole or taken apart, and nothing was written
pub record IsUnread (o : Outcome) (r : Request) (b w : List ℕ) (f : Flags) : Type 0 where
  pub fault : Fault
  pub why : ReadTable (Err fault) b f.reader_failed f.reader_ended r.limit
  pub ended : o.ended ≡ Err fault
  pub none_replaced : o.replaced ≡ 0
  pub nothing : w ≡ []
  pub writer_works : f.writer_failed ≡ false

abbrev pub OutcomeBy : (streamed : Bool) → Outcome → Request → Format → (timing : Option (List ℕ)) → (b w : List ℕ) → Flags → Type 0
OutcomeBy true o r format timing b w f = IsStreamed o r b w f
OutcomeBy false o r format timing b w f = IsTakenApart o r format timing b w f ⊎ IsUnread o r b w f

-- what an outcome states of an input in a format, b being the bytes read and w the bytes written
abbrev pub OutcomeTable : Outcome → Request → Format → (timing : Option (List ℕ)) → (b w : List ℕ) → Flags → Type 0
OutcomeTable o r format timing b w f = OutcomeBy (is_streamed format r.until r.wide (needs_whole r)) o r format timing b w f

-- ---- an input whose beginning decides on its format

-- the format that the beginning shows: a compressed file is played as it is
abbrev pub shown_format : Detected → Format
shown_format (Recording format) = format
shown_format (Compressed compression) = format.Raw

-- the format that was asked for, otherwise the one that the beginning shows
abbrev pub format_of : Option Format → (beginning : List ℕ) → Format
format_of (Some format) beginning = format
format_of None beginning = shown_format (detected beginning)

-- the moment is a time, and the recording has no times
abbrev pub lacks_times : Format → (timed : Bool) → Option Moment → Bool
lacks_times format timed (Some (Micros n)) = not (has_times format timed)
lacks_times format timed until = false
