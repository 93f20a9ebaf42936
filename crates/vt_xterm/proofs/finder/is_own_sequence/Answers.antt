use Rattle.vt_xterm.proofs.finder.is_own_sequence.Goals as goal

pub returns-in-None-None : goal.returns-in-None-None
returns-in-None-None c = rw (c.in-None-None.is-0, c.in-None-None.is-1) c.is_own_plain.ensures
