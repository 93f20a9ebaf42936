-- The events that are gathered of a recording. (this profile)
use Rattle.std.specs.Prelude.{◌≡◌, ℕ, List, [], ◌∷◌, length, take, drop, map}
use Rattle.std.specs.List.{flat_map}
use Rattle.vt_recording.specs.declared.timeline.Event as declared
use Rattle.vt_recording.specs.declared.timeline.Timeline as read
use Rattle.vt_recording.specs.Timeline.{Event, Timeline}

-- an event without its bytes
abbrev pub mark_of : Event → declared.Event
mark_of e = record { micros = e.micros; kind = e.kind; length = length e.text }

-- the marks of events, and their bytes joined
pub record AreGathered (events : List Event) (marks : List declared.Event) (text : List ℕ) : Type 0 where
  pub marks_are : marks ≡ map (λ e. mark_of e) events
  pub text_is : text ≡ flat_map (λ e. e.text) events

-- the events of marks, and of their bytes joined
unfoldable pub events_of : List declared.Event → (text : List ℕ) → List Event
events_of [] text = []
events_of (m ∷ marks) text =
    record { micros = m.micros; kind = m.kind; text = take m.length text } ∷ events_of marks (drop m.length text)

-- a timeline that was read, as its events
abbrev pub timeline_view : read.Timeline → Timeline
timeline_view t = record { events = events_of t.events.items t.text.items; broken = t.broken }

-- a timeline that was read is one of which a fact holds; private contracts alone speak of this
pub record IsRead (Is : Timeline → Type 0) (t : read.Timeline) : Type 0 where
  pub events : List Event
  pub is : Is (record { events = events; broken = t.broken })
  pub are : AreGathered events t.events.items t.text.items
