use Rattle.vt_xterm_display.specs.State.{moved}
use Rattle.vt_xterm_display.specs.Tabs.{horizontal_tab}
use Rattle.vt_xterm_display.proofs.Times.{times-more}
use Rattle.vt_xterm_display.proofs.display.XtermDisplay.tab_times.Goals as goal

pub loop-preserved : goal.loop-preserved
loop-preserved c =
    times-more c.loop.counter (moved horizontal_tab) c.args.self.now c.loop.self c.horizontal_tab.new.self c.loop.invariant c.horizontal_tab.ensures
