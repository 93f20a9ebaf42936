use Rattle.std.proofs.Common.{◌∙◌, arith}
use Rattle.vt_xterm.specs.Tabs.{tab}
use Rattle.vt_xterm.proofs.Times.{times-more}
use Rattle.vt_xterm.proofs.tabs.cursor_forward_tabulation.Goals as goal

pub loop-preserved : goal.loop-preserved
loop-preserved c = record {
  terminal = times-more c.loop.counter tab c.args.terminal.now c.loop.terminal c.tab.new.terminal
      c.loop.invariant.terminal c.tab.ensures.terminal;
  out = c.tab.ensures.out ∙ c.loop.invariant.out;
  len = c.tab.ensures.len ∙ c.loop.invariant.len;
  capacity = omega arith;
}
