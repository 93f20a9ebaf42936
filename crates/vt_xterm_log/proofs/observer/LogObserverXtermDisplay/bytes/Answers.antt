use Rattle.std.proofs.Common.{refl, arith}
use Rattle.vt_xterm_log.proofs.Runs.{nothing-lines}
use Rattle.vt_xterm_log.proofs.observer.LogObserverXtermDisplay.bytes.Goals as goal

pub returns-clause-saw : goal.returns-clause-saw
returns-clause-saw c =
    (refl, refl, refl, λ short. nothing-lines c.args.self.now.lines.now.items c.args.bytes.now, omega arith, λ fits. fits)
