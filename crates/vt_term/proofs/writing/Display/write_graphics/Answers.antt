use Rattle.std.proofs.Common.{◌∙◌, map, ap, sym, arith}
use Rattle.vt_glyph.specs.Invocation.{HasGlyph, InUseTable, in_use, glyph_in_use}
use Rattle.vt_term.specs.State.{Display}
use Rattle.vt_term.specs.Runs.{with_run}
use Rattle.vt_term.proofs.Runs.{prints-run}
use Rattle.vt_term.proofs.writing.Display.write_graphics.Goals as goal

pub returns-then-fits : goal.returns-then-fits
returns-then-fits c =
    c.put_graphics.ensures
    ∙ ap (λ (t : InUseTable). with_run (map (glyph_in_use t) c.args.run.now) c.args.self.now) c.in_use-table.ensures
    ∙ ap (λ (d : Display). with_run (map (glyph_in_use (in_use d.sets)) c.args.run.now) c.args.self.now) c.self.view_is
    ∙ sym (prints-run c.runs.ensures HasGlyph (glyph_in_use (in_use c.args.self.now.sets))
    c.args.run.now c.args.self.now c.requires.writes c.requires.graphic
    c.if-fits.ensures.0 c.requires.some (omega (arith, c.if-fits.ensures.1)))
