use Rattle.std.proofs.Common.{refl}
use Rattle.vt_xterm.specs.Sides.{back_tab}
use Rattle.vt_xterm.proofs.Bounds.{times-width}
use Rattle.vt_xterm.proofs.Times.{times-more}
use Rattle.vt_xterm.proofs.sides.Sides.cursor_backward_tabulation.Goals as goal

pub back_tab-requires : goal.back_tab-requires
back_tab-requires c = record {
  fits = times-width c.loop.counter c.args.self.now (back_tab c.args.self.now) (λ t. refl) c.args.terminal.now c.loop.terminal
      c.loop.invariant c.requires.fits;
}

pub loop-preserved : goal.loop-preserved
loop-preserved c =
    times-more c.loop.counter (back_tab c.args.self.now) c.args.terminal.now c.loop.terminal c.back_tab.new.terminal
    c.loop.invariant c.back_tab.ensures
