use Rattle.vt_recording.proofs.Texts.{document_is}
use Rattle.vt_recording.proofs.asciicast.document_in.Goals as goal

pub returns-in-Ok-parse : goal.returns-in-Ok-parse
returns-in-Ok-parse c =
    document_is _ _ _ c.in-Ok.ensures.cases.0 c.in-Ok.ensures.cases.1 c.in-Ok-parse.ensures.ok
