use Rattle.std.proofs.Common.{◌∙◌, ◌++◌, List, ℕ, ap, arith}
use Rattle.vt_term.proofs.RowTexts.{plain-front}
use Rattle.vt_term.proofs.line.push_next.Goals as goal

pub returns-in-Ok-clause-items : goal.returns-in-Ok-clause-items
returns-in-Ok-clause-items c =
    c.in-Ok.ensures.ok
    ∙ ap (λ (t : List ℕ). c.args.text.now.items ++ t)
    (plain-front c.args.cells.now c.args.codes.now c.plain_run-run.result c.requires.long
    (omega (arith, c.plain_run-run.ensures.within, c.requires.long)) c.plain_run-run.ensures.plain c.requires.glyphs)
