use Rattle.vt_xterm.proofs.Logged.{log-nothing, log-two}
use Rattle.vt_xterm.proofs.laws.log_cuts.Goals as goal

pub returns : goal.returns
returns c = record { none = log-nothing; two = log-two }
