use Rattle.std.proofs.Common.{subst, sym}
use Rattle.vt_xterm.specs.Private.Finding.{AllKeepNone}
use Rattle.vt_xterm.proofs.NoSides.{run-none}
use Rattle.vt_xterm.proofs.finder.SetterObserver.run.Goals as goal

pub returns : goal.returns
returns c = λ s sound same between.
    subst AllKeepNone (sym (c.sized_happened.ensures.events s.display.grid.size s c.args.bytes.now sound))
    (run-none c.spelled.ensures s c.args.bytes.now between c.requires.graphic)
