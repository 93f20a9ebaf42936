-- An event, as contracts see it. (this profile)
use Rattle.vt_recording.specs.Asciicast.{Event}
use Rattle.vt_recording.specs.declared.asciicast.Event as declared

abbrev pub event_view : declared.Event → Event
event_view e = (e.micros, e.code.now, e.text.now)
