use Rattle.vt_recording.proofs.Texts.{is_utf8}
use Rattle.vt_recording.proofs.asciicast.text_in.Goals as goal

pub returns : goal.returns
returns c = (is_utf8 _ c.in-Ok.ensures.cases.1, c.in-Ok.ensures.cases.0)
