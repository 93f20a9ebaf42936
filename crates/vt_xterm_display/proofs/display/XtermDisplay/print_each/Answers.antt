use Rattle.vt_xterm_display.proofs.Letters.{prints-more}
use Rattle.vt_xterm_display.proofs.display.XtermDisplay.print_each.Goals as goal

pub loop-b-preserved : goal.loop-b-preserved
loop-b-preserved c =
    prints-more c.args.run.now c.loop-b.b-index c.args.self.now c.loop-b.self c.print.new.self c.loop-b-test.true c.loop-b.invariant
    c.print.ensures
