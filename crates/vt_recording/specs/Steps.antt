-- A step and a spot, as contracts see them. (this profile)
use Rattle.vt_recording.specs.Timing as timing
use Rattle.vt_recording.specs.declared.timing.Step.{Step}
use Rattle.vt_recording.specs.declared.timing.Telling.{Telling}

abbrev pub step_view : Step → timing.Step
step_view s = (s.micros, s.is_output, s.count)

abbrev pub spot_in : Telling → timing.Spot
spot_in t = record { clock = t.clock; place = t.place }
