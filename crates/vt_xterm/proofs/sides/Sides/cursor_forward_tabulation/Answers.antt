use Rattle.std.proofs.Common.{◌∙◌, arith, refl}
use Rattle.vt_xterm.specs.Sides.{horizontal_tab}
use Rattle.vt_xterm.proofs.Bounds.{times-width}
use Rattle.vt_xterm.proofs.Times.{times-more}
use Rattle.vt_xterm.proofs.sides.Sides.cursor_forward_tabulation.Goals as goal

pub horizontal_tab-requires-clause-fits : goal.horizontal_tab-requires-clause-fits
horizontal_tab-requires-clause-fits c =
    times-width c.loop.counter c.args.self.now (horizontal_tab c.args.self.now) (λ t. refl) c.args.terminal.now c.loop.terminal
    c.loop.invariant.terminal c.requires.fits

pub loop-preserved : goal.loop-preserved
loop-preserved c = record {
  terminal = times-more c.loop.counter (horizontal_tab c.args.self.now) c.args.terminal.now c.loop.terminal
      c.horizontal_tab.new.terminal c.loop.invariant.terminal c.horizontal_tab.ensures.terminal;
  out = c.horizontal_tab.ensures.out ∙ c.loop.invariant.out;
  len = c.horizontal_tab.ensures.len ∙ c.loop.invariant.len;
  capacity = omega arith;
}
