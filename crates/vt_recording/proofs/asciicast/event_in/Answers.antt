use Rattle.std.proofs.Common.{◌∙◌, ap}
use Rattle.vt_recording.specs.Asciicast.{event_of}
use Rattle.vt_recording.proofs.Texts.{event_is}
use Rattle.vt_recording.proofs.asciicast.event_in.Goals as goal

pub returns-in-Ok-new : goal.returns-in-Ok-new
returns-in-Ok-new c =
    event_is _ _ _ c.in-Ok.ensures.cases.0 c.in-Ok.ensures.cases.1
    (c.event_of.ensures ∙ ap event_of c.in-Ok-new.ensures.ok)
