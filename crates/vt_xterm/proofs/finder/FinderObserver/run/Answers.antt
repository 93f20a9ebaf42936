use Rattle.std.proofs.Common.{subst, sym}
use Rattle.vt_xterm.specs.Terminals.{AreTerminals}
use Rattle.vt_xterm.proofs.Terminals.{terminals-run}
use Rattle.vt_xterm.proofs.finder.FinderObserver.run.Goals as goal

pub returns : goal.returns
returns c = λ s sound same between.
    subst AreTerminals (sym (c.sized_happened.ensures.events s.display.grid.size s c.args.bytes.now sound))
    (terminals-run c.spelled.ensures s c.args.bytes.now between c.requires.graphic)
