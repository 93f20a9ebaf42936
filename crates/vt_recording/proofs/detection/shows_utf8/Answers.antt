use Rattle.vt_recording.proofs.Texts.{shown_whole}
use Rattle.vt_recording.proofs.detection.shows_utf8.Goals as goal

pub returns-in-Ok : goal.returns-in-Ok
returns-in-Ok c = shown_whole _ _ c.in-Ok.ensures.cases.1 c.is_ascii.ensures
