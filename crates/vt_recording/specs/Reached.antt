-- The events of a recording before a moment, and up to one. (this profile; the bytes of UTF-8: RFC 3629)
use Rattle.std.specs.Prelude.{ℕ, ◌+◌, ◌&&◌, List, [], ◌∷◌, length, take, Bool, true, false, not, cond, nat_le, nat_lt, Option, Some, None}
use Rattle.std.specs.List.{filter}
use Rattle.vt_recording.specs.declared.format.Format.{Format}
use Rattle.vt_recording.specs.declared.format.Format.TheVariants.{Asciicast}
use Rattle.vt_recording.specs.declared.format.Encoding.{Encoding}
use Rattle.vt_recording.specs.declared.format.Encoding.TheVariants.{Dec}
use Rattle.vt_recording.specs.declared.format.Moment.{Moment}
use Rattle.vt_recording.specs.declared.format.Moment.TheVariants as moment
use Rattle.vt_recording.specs.declared.timeline.EventKind.{EventKind}
use Rattle.vt_recording.specs.declared.timeline.EventKind.TheVariants as kind
use Rattle.vt_recording.specs.declared.reached.Passed.{Passed}
use Rattle.vt_recording.specs.Timeline.{Event, is_output}

-- ---- the bytes of the content that an event has

-- the content has a byte for each character, and not the bytes of its UTF-8
abbrev pub has_characters : Format → Encoding → Bool
has_characters Asciicast Dec = true
has_characters format encoding = false

-- a byte that continues a character of UTF-8
abbrev pub continues : ℕ → Bool
continues b = nat_le 0x80 b && nat_lt b 0xC0

abbrev pub length_of : (characters : Bool) → List ℕ → ℕ
length_of true text = length (filter (λ b. not (continues b)) text)
length_of false text = length text

abbrev pub played : (characters : Bool) → Event → ℕ
played characters e = cond (is_output e.kind) (length_of characters e.text) 0

-- ---- what passes

abbrev pub is_marker : EventKind → Bool
is_marker kind.Output = false
is_marker kind.Input = false
is_marker kind.Marker = true
is_marker kind.Size = false
is_marker kind.Exit = false

abbrev pub nothing_passed : Passed
nothing_passed = record { events = 0; markers = 0; content = 0 }

abbrev pub with_event : (characters : Bool) → Passed → Event → Passed
with_event characters p e = record {
  events = p.events + 1;
  markers = cond (is_marker e.kind) (p.markers + 1) p.markers;
  content = p.content + played characters e;
}

-- an event is at the moment, or after it: it isn't earlier than the time, its bytes are after so many of the content, or
-- it or its marker has the number
abbrev pub is_reached : Moment → Passed → (micros : ℕ) → EventKind → Bool
is_reached (moment.Micros n) p micros kind = nat_le n micros
is_reached (moment.Bytes n) p micros kind = nat_le n p.content
is_reached (moment.Event n) p micros kind = nat_le n (p.events + 1)
is_reached (moment.Marker n) p micros kind = is_marker kind && nat_le n (p.markers + 1)

-- an event comes after the moment: it is later than the time, or so many bytes of the content, events or markers have passed
abbrev pub is_over : Moment → Passed → (micros : ℕ) → Bool
is_over (moment.Micros n) p micros = nat_lt n micros
is_over (moment.Bytes n) p micros = nat_le n p.content
is_over (moment.Event n) p micros = nat_le n p.events
is_over (moment.Marker n) p micros = nat_le n p.markers

-- an event doesn't pass any more: up to a moment if it comes after that, otherwise if it is at that. No moment is the end of all
-- events, otherwise their beginning
abbrev pub stops : (until : Bool) → Option Moment → Passed → (micros : ℕ) → EventKind → Bool
stops true None p micros kind = false
stops true (Some m) p micros kind = is_over m p micros
stops false None p micros kind = true
stops false (Some m) p micros kind = is_reached m p micros kind

-- what passes before the first event that doesn't. If there is no such event, all events pass
unfoldable pub passed : (until characters : Bool) → Option Moment → Passed → List Event → Passed
passed until characters m p [] = p
passed until characters m p (e ∷ events) =
    cond (stops until m p e.micros e.kind) p (passed until characters m (with_event characters p e) events)

-- the events that are due until a moment: the clock of a recording never falls, so they are the first ones
abbrev pub due : (characters : Bool) → (until : Option Moment) → List Event → List Event
due characters until events = take (passed true characters until nothing_passed events).events events

-- ---- the content between two moments

-- the number of bytes of the content before a moment, or up to it
abbrev pub content_at : Option Moment → Passed → ℕ
content_at (Some (moment.Bytes n)) p = n
content_at (Some (moment.Micros n)) p = p.content
content_at (Some (moment.Event n)) p = p.content
content_at (Some (moment.Marker n)) p = p.content
content_at None p = p.content

abbrev pub place_of : (until characters : Bool) → Option Moment → List Event → ℕ
place_of until characters m events = content_at m (passed until characters m nothing_passed events)
