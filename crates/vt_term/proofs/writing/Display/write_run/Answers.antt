use Rattle.std.proofs.Common.{◌∙◌, List, ℕ, ap, sym, arith}
use Rattle.std.proofs.lemmas.List.{map-id}
use Rattle.vt_syntax.specs.Class.{IsPlain}
use Rattle.vt_term.specs.Runs.{with_run}
use Rattle.vt_term.proofs.Runs.{prints-run}
use Rattle.vt_term.proofs.writing.Display.write_run.Goals as goal

pub returns-then-fits : goal.returns-then-fits
returns-then-fits c =
    c.put_run.ensures
    ∙ ap (λ (glyphs : List ℕ). with_run glyphs c.args.self.now) (sym (map-id c.args.run.now))
    ∙ sym (prints-run c.runs.ensures IsPlain (λ b. b) c.args.run.now c.args.self.now
    c.requires.writes c.requires.plain
    c.if-fits.ensures.0 c.requires.some (omega (arith, c.if-fits.ensures.1)))
