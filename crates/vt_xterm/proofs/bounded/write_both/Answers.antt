use Rattle.vt_glyph.specs.Invocation.{after_read}
use Rattle.vt_xterm.proofs.WrittenBeyond.{both-shown}
use Rattle.vt_xterm.proofs.bounded.write_both.Goals as goal

pub returns-clause-terminal : goal.returns-clause-terminal
unfolding after_read
returns-clause-terminal c =
    both-shown c.args.glyph c.blank.result c.args.sides c.write_glyph-after.result c.args.terminal.now c.read_glyph.new.self
    c.write_glyph-after.new.terminal c.write_glyph.new.terminal c.args.pages.now c.read_glyph.ensures.state
    c.write_glyph-after.ensures.terminal c.write_glyph-after.ensures.sides c.blank.ensures c.write_glyph.ensures.terminal
