use Rattle.vt_xterm.proofs.finder.is_own.Goals as goal

pub returns-in-Sequence : goal.returns-in-Sequence
returns-in-Sequence c = rw c.in-Sequence.is c.is_own_sequence.ensures
