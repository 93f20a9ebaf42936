use Rattle.vt_xterm_repaint.proofs.writer.repaint_reserved.Goals as goal

pub returns-clause-rebuilds : goal.returns-clause-rebuilds
returns-clause-rebuilds c = c.rebuilds.ensures c.args.x.now.screen c.makeable.ensures
