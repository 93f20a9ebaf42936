use Rattle.std.proofs.lemmas.Result.{IfOk-weaker}
use Rattle.vt_recording.proofs.Fronts.{viewed}
use Rattle.vt_recording.proofs.events.timeline_of.Goals as goal

pub returns-in-Raw : goal.returns-in-Raw
returns-in-Raw c = rw c.in-Raw.is (IfOk-weaker _ _ _ (viewed _) c.at_once.ensures)

pub returns-in-Some : goal.returns-in-Some
returns-in-Some c = rw (c.in-Script.is, c.in-Some.is) (IfOk-weaker _ _ _ (viewed _) c.timed_timeline.ensures)

pub returns-in-None : goal.returns-in-None
returns-in-None c = rw (c.in-Script.is, c.in-None.is) (IfOk-weaker _ _ _ (viewed _) c.script_timeline.ensures)

pub returns-in-Ttyrec : goal.returns-in-Ttyrec
returns-in-Ttyrec c = rw c.in-Ttyrec.is (IfOk-weaker _ _ _ (viewed _) c.ttyrec_timeline.ensures)

pub returns-in-Asciicast : goal.returns-in-Asciicast
returns-in-Asciicast c = rw c.in-Asciicast.is (IfOk-weaker _ _ _ (viewed _) c.asciicast_timeline.ensures)
