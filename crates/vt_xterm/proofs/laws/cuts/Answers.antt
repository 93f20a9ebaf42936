use Rattle.vt_xterm.proofs.Cuts.{xterm-nothing, xterm-two, xterm-joined}
use Rattle.vt_xterm.proofs.laws.cuts.Goals as goal

pub returns : goal.returns
returns c = record { none = xterm-nothing; two = xterm-two; all = xterm-joined }
