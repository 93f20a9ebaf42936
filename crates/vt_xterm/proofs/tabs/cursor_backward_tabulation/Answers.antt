use Rattle.vt_xterm.specs.Tabs.{back_tab}
use Rattle.vt_xterm.proofs.Times.{times-more}
use Rattle.vt_xterm.proofs.tabs.cursor_backward_tabulation.Goals as goal

pub loop-preserved : goal.loop-preserved
loop-preserved c =
    times-more c.loop.counter back_tab c.args.terminal.now c.loop.terminal c.back_tab.new.terminal c.loop.invariant
    c.back_tab.ensures
