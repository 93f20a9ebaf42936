use Rattle.vt_xterm_log.proofs.Cuts.{log-nothing, log-both}
use Rattle.vt_xterm_log.proofs.laws.log_cuts.Goals as goal

pub returns : goal.returns
returns c = record { none = log-nothing; two = log-both }
