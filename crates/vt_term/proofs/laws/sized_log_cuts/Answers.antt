use Rattle.vt_term.proofs.Scrolled.{log-append, log-nothing}
use Rattle.vt_term.proofs.SizeKept.{own-size}
use Rattle.vt_term.proofs.laws.sized_log_cuts.Goals as goal

pub returns : goal.returns
returns c = record {
  none = λ size s sound. log-nothing c.one_split.ensures s (own-size size s sound);
  two = log-append c.one_split.ensures;
}
