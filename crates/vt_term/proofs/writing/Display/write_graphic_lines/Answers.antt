use Rattle.std.proofs.Common.{ℕ, List, take, drop, map, ◌<◌, ◌-◌, ◌∙◌, ap, arith}
use Rattle.vt_glyph.specs.Invocation.{HasGlyph, InUseTable, in_use, glyph_in_use}
use Rattle.vt_term.specs.Runs.{with_run}
use Rattle.vt_term.proofs.Runs.{line-of-run}
use Rattle.vt_term.proofs.writing.Display.write_graphic_lines.Goals as goal

pub loop-at-preserved : goal.loop-at-preserved
loop-at-preserved c =
    let line : List ℕ = take (c.min-end.result - c.loop-at.at) (drop c.loop-at.at c.args.run.now) in
    let more : c.loop-at.at < c.min-end.result = omega (arith, c.min-end.ensures, c.room.ensures.some) in
    let done = line-of-run c.runs.ensures HasGlyph (glyph_in_use (in_use c.args.self.now.sets)) c.args.run.now
    c.loop-at.at c.min-end.result c.args.self.now c.loop-at.self c.carry_out_wrap.new.self c.put_graphics.new.self
    c.requires.graphic more (omega (arith, c.min-end.ensures)) c.loop-at.invariant.written c.loop-at.invariant.writes
    c.carry_out_wrap.ensures (omega (arith, c.min-end.ensures, c.room.ensures.room))
    (c.put_graphics.ensures
    ∙ ap (λ (t : InUseTable). with_run (map (glyph_in_use t) line) c.carry_out_wrap.new.self) c.requires.table) in
    record { within = omega (arith, c.min-end.ensures); written = done.0; writes = done.1 }
