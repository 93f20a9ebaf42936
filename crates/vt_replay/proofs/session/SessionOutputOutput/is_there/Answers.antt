use Rattle.std.proofs.Common.{◌∙◌, ap, sym}
use Rattle.vt_replay.specs.Resizes.{XtermKept}
use Rattle.vt_replay.specs.Session.{is_between}
use Rattle.vt_replay.proofs.session.SessionOutputOutput.is_there.Goals as goal

pub returns : goal.returns
returns c = c.is_between.ensures ∙ sym (ap (λ (k : XtermKept). is_between k.whole k.pending) c.sized.ensures.kept)
