use Rattle.std.proofs.Common.{ap, refl}
use Rattle.vt_xterm_paint.specs.Repaint.{xterm_repaint}
use Rattle.vt_replay.specs.Resizes.{XtermKept}
use Rattle.vt_replay.specs.Session.{is_between}
use Rattle.vt_replay.proofs.session.SessionOutputOutput.feed.Goals as goal

pub returns-clause-after : goal.returns-clause-after
returns-clause-after c = record {
  on = λ more. refl;
  end_on = λ more. ap (λ (k : XtermKept). xterm_repaint k.whole) (c.feed.ensures.after more);
  there_on = λ more. ap (λ (k : XtermKept). is_between k.whole k.pending) (c.feed.ensures.after more);
  none = refl;
}
