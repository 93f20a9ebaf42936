use Rattle.vt_xterm.proofs.laws.transparent.Goals as goal

pub returns : goal.returns
returns c = record {
  ascii = λ w bytes sound all. c.sized_transparent.ensures.ascii w bytes sound.held all;
  terminals = c.sized_transparent.ensures.terminals;
}
