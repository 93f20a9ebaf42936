use Rattle.std.proofs.Common.{sym, ◌∙◌}
use Rattle.vt_paint.proofs.Equality.{blank_word, above_lowest}
use Rattle.vt_paint.proofs.cells.Run.is_plain.Goals as goal

pub returns-clause-blank : goal.returns-clause-blank
returns-clause-blank c h =
    let w = c.word.ensures in
    let run = c.args.self.now in
    sym (blank_word c.args.cell.now c.word.result w.word w.glyph w.bound)
    ∙ above_lowest c.word.result run.number run.low run.lowest run.small c.word.type_inv h
