use Rattle.std.proofs.Common.{refl, arith}
use Rattle.vt_xterm_log.proofs.Runs.{run-line}
use Rattle.vt_xterm_log.proofs.observer.LogObserverXtermDisplay.run.Goals as goal

pub returns : goal.returns
returns c = (
  refl,
  refl,
  refl,
  λ short. run-line c.args.run.now _ _ _ c.args.machine.now _ c.requires.some c.requires.fits.1 c.print_off-count.ensures.off
      c.push_off.ensures.items short,
  c.push_off.ensures.capacity,
  λ fits. omega (arith, c.push_off.ensures.bounded, c.requires.fits.0.1),
)
