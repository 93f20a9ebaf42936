use Rattle.vt_xterm_display.specs.Writing.{write}
use Rattle.vt_xterm_display.proofs.Times.{times-more}
use Rattle.vt_xterm_display.proofs.display.XtermDisplay.write_times.Goals as goal

pub loop-preserved : goal.loop-preserved
loop-preserved c =
    times-more c.loop.counter (write c.args.cell) c.args.self.now c.loop.self c.write.new.self c.loop.invariant c.write.ensures
