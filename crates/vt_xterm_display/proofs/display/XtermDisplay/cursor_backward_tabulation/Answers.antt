use Rattle.vt_xterm_display.specs.State.{moved}
use Rattle.vt_xterm_display.specs.Tabs.{back_tab}
use Rattle.vt_xterm_display.proofs.Times.{times-more}
use Rattle.vt_xterm_display.proofs.display.XtermDisplay.cursor_backward_tabulation.Goals as goal

pub loop-preserved : goal.loop-preserved
loop-preserved c =
    times-more c.loop.counter (moved back_tab) c.args.self.now c.loop.self c.back_tab.new.self c.loop.invariant c.back_tab.ensures
