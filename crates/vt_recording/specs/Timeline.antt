-- A recording as its events in turn, and the place at which it breaks its format. (asciicast 2 and 3 of asciinema: a line
-- of a time, a code and a text; asciicast 1: a frame; ttyrec: the frame after a header; script(1) and scriptreplay(1) of util-linux: a line of the
-- timing file)
use Rattle.std.specs.Prelude.{◌≡◌, ℕ, ◌+◌, List, [], ◌∷◌, ◌++◌, length, take, drop, map, codes, bytes_eq, Bool, true, false, cond}
use Rattle.std.specs.Prelude.{Option, Some, None, option_map}
use Rattle.std.specs.List.{All, flat_map}
use Rattle.vt_recording.specs.declared.format.Format.{Format}
use Rattle.vt_recording.specs.declared.format.Format.TheVariants as format
use Rattle.vt_device.specs.declared.fault.Break.{Break}
use Rattle.vt_device.specs.declared.fault.Part.TheVariants as part
use Rattle.vt_recording.specs.declared.timeline.EventKind.{EventKind}
use Rattle.vt_recording.specs.declared.timeline.EventKind.TheVariants.{Output, Input, Marker, Size, Exit}
use Rattle.vt_recording.specs.Lines.{lines_of}
use Rattle.vt_recording.specs.Script.{begins_with, first_line, EndsAt, IsOfScript}
use Rattle.vt_recording.specs.Timing as timing
use Rattle.vt_recording.specs.Timing.{Step, Spot}
use Rattle.vt_recording.specs.Ttyrec.{Piece, Frame, IsWhole, EndsBefore, spelled, time_of, frames_after}
use Rattle.json.specs.Json.{Items, no_items, item}
use Rattle.vt_recording.specs.Asciicast as cast

-- ---- an event

-- a time in microseconds after the beginning, what it is, and its bytes
pub record Event : Type 0 where
  pub micros : ℕ
  pub kind : EventKind
  pub text : List ℕ

pub record Timeline : Type 0 where
  pub events : List Event
  pub broken : Option Break

-- the recording is broken at a byte
abbrev pub in_recording : Option ℕ → Option Break
in_recording at = option_map (λ n. record { part = part.Recording; at = n }) at

abbrev pub after : List Event → Timeline → Timeline
after events timeline = record { events = events ++ timeline.events; broken = timeline.broken }

abbrev pub ends_at : Option Break → Timeline
ends_at broken = record { events = []; broken = broken }

abbrev pub event_if : Option EventKind → (micros : ℕ) → (text : List ℕ) → List Event
event_if None micros text = []
event_if (Some kind) micros text = record { micros = micros; kind = kind; text = text } ∷ []

abbrev pub is_output : EventKind → Bool
is_output Output = true
is_output Input = false
is_output Marker = false
is_output Size = false
is_output Exit = false

-- ---- asciicast

-- `o` is output, `i` input, `m` a marker, `r` a size and `x` the exit status. Any other code is no event
abbrev pub kind_of : (code : List ℕ) → Option EventKind
kind_of code =
    cond (bytes_eq code (codes "o")) (Some Output)
    (cond (bytes_eq code (codes "i")) (Some Input)
    (cond (bytes_eq code (codes "m")) (Some Marker)
    (cond (bytes_eq code (codes "r")) (Some Size) (cond (bytes_eq code (codes "x")) (Some Exit) None))))

-- the event of a line
abbrev pub told_in : (silent : Bool) → Option cast.Event → (version clock : ℕ) → List Event
told_in true event version clock = []
told_in false None version clock = []
told_in false (Some e) version clock = event_if (kind_of e.1) (cast.clock_after version clock e.0) e.2

-- events and then those of the other lines, as a function of the time, unless the format is broken at this byte
abbrev pub and_then : (time : Option ℕ) → List Event → (at : ℕ) → (ℕ → Timeline) → Timeline
and_then None events at rest = ends_at (in_recording (Some at))
and_then (Some now) events at rest = after events (rest now)

unfoldable pub cast_events : (version clock at : ℕ) → List (List ℕ) → Timeline
cast_events version clock at [] = ends_at None
cast_events version clock at (line ∷ lines) =
    and_then (cast.time_behind (cast.is_silent version line) (cast.event_in line) version clock)
    (told_in (cast.is_silent version line) (cast.event_in line) version clock) at
    (λ now. cast_events version now (at + (length line + 1)) lines)

-- the frames of version 1
unfoldable pub frame_events : (clock : ℕ) → Items → Timeline
frame_events clock no_items = ends_at None
frame_events clock (item frame frames) =
    and_then (cast.time_behind false (cast.frame_of frame) 1 clock) (told_in false (cast.frame_of frame) 1 clock) 0
    (λ now. frame_events now frames)

abbrev pub events_by_frames : Option Items → Timeline
events_by_frames None = ends_at (in_recording (Some 0))
events_by_frames (Some frames) = frame_events 0 frames

-- the version is in the first line, or it is 1
abbrev pub cast_by : (version : Option ℕ) → (frames : Option Items) → (at : ℕ) → List (List ℕ) → Timeline
cast_by None frames at lines = events_by_frames frames
cast_by (Some version) frames at lines = cast_events version 0 at lines

abbrev pub cast_from : (frames : Option Items) → (start : ℕ) → List (List ℕ) → Timeline
cast_from frames start [] = events_by_frames frames
cast_from frames start (header ∷ lines) = cast_by (cast.version_in header) frames (start + (length header + 1)) lines

abbrev pub asciicast : (bytes : List ℕ) → Timeline
asciicast bytes =
    cast_from (cast.frames_in (cast.json_text bytes)) (cast.start_of bytes) (lines_of (cast.json_text bytes))

-- ---- script with its timing file

-- the text after a name in a line of a signal
abbrev pub signal_in : (name line : List ℕ) → Option (List ℕ)
signal_in name line =
    cond (begins_with (codes "S ") line) (timing.value_at (timing.space_in (drop 2 line)) name (drop 2 line)) None

-- a new size and an exit status that a line names
abbrev pub noted : (size status : Option (List ℕ)) → (micros : ℕ) → List Event
noted (Some size) status micros = event_if (Some Size) micros size
noted None (Some status) micros = event_if (Some Exit) micros status
noted None None micros = []

-- a line that isn't output: `I` is input, `S .. SIGWINCH` a size and `H .. EXIT_CODE` the exit status
abbrev pub unheard_in : (line : List ℕ) → (micros : ℕ) → (bytes : List ℕ) → List Event
unheard_in line micros bytes =
    cond (begins_with (codes "I ") line) (event_if (Some Input) micros bytes)
    (noted (signal_in (codes "SIGWINCH ") line) (timing.value_in (codes "EXIT_CODE ") line) micros)

-- the event of a line, whose bytes are the next ones of the session
abbrev pub told_by : (empty : Bool) → Option Step → (line session : List ℕ) → Spot → List Event
told_by true step line session spot = []
told_by false None line session spot = []
told_by false (Some s) line session spot =
    let micros = timing.later spot.clock s.0 in
    let bytes = take s.2 (drop spot.place session) in
    cond s.1 (event_if (Some Output) micros bytes) (unheard_in line micros bytes)

abbrev pub unless : Option Break → List Event → Timeline → Timeline
unless None events timeline = after events timeline
unless (Some place) events timeline = ends_at (Some place)

unfoldable pub timed_events : (apart : Bool) (session : List ℕ) (stop : ℕ) (spot : Spot) (at : ℕ) → List (List ℕ) → Timeline
timed_events apart session stop spot at [] = ends_at None
timed_events apart session stop spot at (line ∷ lines) =
    unless (timing.break_in (timing.is_empty line) (timing.step_in apart line) session spot.place stop at)
    (told_by (timing.is_empty line) (timing.step_in apart line) line session spot)
    (timed_events apart session stop (timing.spot_after (timing.is_empty line) (timing.step_in apart line) spot)
    (at + (length line + 1)) lines)

abbrev pub timed : (session : List ℕ) (stop : ℕ) → List (List ℕ) → Timeline
timed session stop lines =
    timed_events (timing.is_apart lines) session stop (record { clock = 0; place = 0 }) 0 lines

-- the session is that of the content
pub record IsTimed (body text : List ℕ) (from : ℕ) (timeline : Timeline) : Type 0 where
  pub end : ℕ
  pub ends : EndsAt body end
  pub timeline_is : timeline ≡ timed (take end body) (from + end) (lines_of text)

-- a recording with its timing file, by the place of the LF of the first line
abbrev pub IsTimedBy : Option ℕ → (bytes text : List ℕ) → Timeline → Type 0
IsTimedBy None bytes text timeline = timeline ≡ ends_at (in_recording (Some 0))
IsTimedBy (Some line) bytes text timeline = IsTimed (drop (line + 1) bytes) text (line + 1) timeline

-- ---- ttyrec

abbrev pub frame : Frame → Event
frame f = record { micros = f.micros; kind = Output; text = f.bytes }

pub record AreFrames (bytes : List ℕ) (timeline : Timeline) : Type 0 where
  pub pieces : List Piece
  pub rest : List ℕ
  pub at : Option ℕ
  pub joined : bytes ≡ flat_map (λ p. spelled p) pieces ++ rest
  pub whole : All (λ p. IsWhole p) pieces
  pub ends : EndsBefore (length (flat_map (λ p. spelled p) pieces)) rest at
  pub events_are : timeline.events ≡ map (λ f. frame f) (frames_after (time_of bytes) 0 pieces)
  pub breaks : timeline.broken ≡ in_recording at

-- ---- a recording without times: all of its content comes at once

abbrev pub at_once : (content : List ℕ) → (broken : Option ℕ) → Timeline
at_once content broken = after (event_if (Some Output) 0 content) (ends_at (in_recording broken))

abbrev pub IsOfScriptBy : (timing : Option (List ℕ)) → (bytes : List ℕ) → Timeline → Type 0
IsOfScriptBy None bytes timeline =
    (content : List ℕ) × (broken : Option ℕ) × IsOfScript bytes content broken × (timeline ≡ at_once content broken)
IsOfScriptBy (Some text) bytes timeline = IsTimedBy (first_line bytes) bytes text timeline

-- ---- all: the timeline of a recording in a format

abbrev pub IsTimelineOf : Format → (timing : Option (List ℕ)) → (bytes : List ℕ) → Timeline → Type 0
IsTimelineOf format.Raw timing bytes timeline = timeline ≡ at_once bytes None
IsTimelineOf format.Script timing bytes timeline = IsOfScriptBy timing bytes timeline
IsTimelineOf format.Ttyrec timing bytes timeline = AreFrames bytes timeline
IsTimelineOf format.Asciicast timing bytes timeline = timeline ≡ asciicast bytes
