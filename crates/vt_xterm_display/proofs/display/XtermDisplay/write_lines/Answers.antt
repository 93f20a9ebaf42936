use Rattle.std.proofs.Common.{◌<◌, arith}
use Rattle.vt_xterm_display.proofs.Letters.{line-written}
use Rattle.vt_xterm_display.proofs.display.XtermDisplay.write_lines.Goals as goal

pub loop-at-preserved : goal.loop-at-preserved
loop-at-preserved c =
    let more : c.loop-at.at < c.min-end.result = omega (arith, c.min-end.ensures, c.room.ensures.some) in
    let done = line-written c.runs.ensures c.args.run.now c.loop-at.at c.min-end.result c.args.self.now c.loop-at.self
    c.carry_out_wrap.new.self c.put_letters.new.self c.requires.plain more (omega (arith, c.min-end.ensures)) c.loop-at.invariant.written
    c.loop-at.invariant.writes c.carry_out_wrap.ensures c.soundness.ensures.shown.cursor.row_1 c.soundness.ensures.shown.cursor.row_last
    (omega (arith, c.min-end.ensures, c.room.ensures.fits)) c.put_letters.ensures in
    record { within = omega (arith, c.min-end.ensures); written = done.0; writes = done.1 }
