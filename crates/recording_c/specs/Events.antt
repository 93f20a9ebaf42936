-- The events of a recording as C sees them. (this profile)
use Rattle.std.specs.Prelude.{◌≡◌, ℕ, List, ◌++◌, length, map, drop, Bool, true, false, Option, Some, None}
use Rattle.vt_device.specs.declared.fault.Break.{Break}
use Rattle.vt_device.specs.declared.fault.Part.{Part}
use Rattle.vt_device.specs.declared.fault.Part.TheVariants as part
use Rattle.vt_recording.specs.declared.timeline.Event.{Event}
use Rattle.vt_recording.specs.declared.timeline.EventKind.{EventKind}
use Rattle.vt_recording.specs.declared.timeline.EventKind.TheVariants.{Output, Input, Marker, Size, Exit}
use Rattle.vt_recording.specs.declared.timeline.Timeline.{Timeline}
use Rattle.vt_recording.specs.Timeline.{IsTimelineOf}
use Rattle.vt_recording.specs.Gathered.{timeline_view}
use Rattle.recording_c.specs.declared.events.RecordingEvent.{RecordingEvent}
use Rattle.recording_c.specs.declared.events.RecordingExtent.{RecordingExtent}
use Rattle.recording_c.specs.Headings.{format_in}

abbrev pub number_of_kind : EventKind → ℕ
number_of_kind Output = 0
number_of_kind Input = 1
number_of_kind Marker = 2
number_of_kind Size = 3
number_of_kind Exit = 4

abbrev pub c_event : Event → RecordingEvent
c_event e = record { micros = e.micros; length = e.length; kind = number_of_kind e.kind }

-- a slice after events were written over its front
abbrev pub events_over : List Event → List RecordingEvent → List RecordingEvent
events_over events slice = map c_event events ++ drop (length events) slice

-- a slice after bytes were written over its front
abbrev pub bytes_over : List ℕ → List ℕ → List ℕ
bytes_over bytes slice = bytes ++ drop (length bytes) slice

abbrev pub number_of_part : Part → ℕ
number_of_part part.Recording = 1
number_of_part part.Timing = 2

-- the number of the part that is broken, or 0 if none is
abbrev pub part_of : Option Break → ℕ
part_of None = 0
part_of (Some place) = number_of_part place.part

abbrev pub offset_of : Option Break → ℕ
offset_of None = 0
offset_of (Some place) = place.at

abbrev pub c_extent : Timeline → RecordingExtent
c_extent t = record {
  events = length t.events.items;
  bytes = length t.text.items;
  broken_at = offset_of t.broken;
  broken_part = part_of t.broken;
}

abbrev pub timing_if : (timed : Bool) → (text : List ℕ) → Option (List ℕ)
timing_if true text = Some text
timing_if false text = None

-- the buffers and the extent after the timeline of a recording was written to them
pub record IsTold (timed : Bool) (timing recording : List ℕ) (before after : List RecordingEvent) (room filled : List ℕ) (extent : RecordingExtent) : Type 0 where
  pub timeline : Timeline
  pub is : IsTimelineOf (format_in timed recording) (timing_if timed timing) recording (timeline_view timeline)
  pub events_are : after ≡ events_over timeline.events.items before
  pub text_is : filled ≡ bytes_over timeline.text.items room
  pub extent_is : extent ≡ c_extent timeline
