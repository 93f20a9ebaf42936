use Rattle.vt_term.specs.Writing.{write_glyph}
use Rattle.vt_xterm.proofs.Times.{times-more}
use Rattle.vt_xterm.proofs.repeating.write_times.Goals as goal

pub loop-preserved : goal.loop-preserved
loop-preserved c =
    times-more c.loop.counter (write_glyph c.args.glyph) c.args.terminal.now c.loop.terminal c.write_glyph.new.self
    c.loop.invariant c.write_glyph.ensures
