use Rattle.vt_xterm.proofs.Cuts.{xterm-ascii}
use Rattle.vt_xterm.proofs.Terminals.{bytes-terminals}
use Rattle.vt_xterm.proofs.laws.sized_transparent.Goals as goal

pub returns : goal.returns
returns c = record {
  ascii = λ w bytes is all. xterm-ascii c.one_split.ensures w bytes is all;
  terminals = bytes-terminals;
}
