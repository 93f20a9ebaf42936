use Rattle.std.proofs.Common.{sym, ap, ◌∙◌}
use Rattle.std.proofs.lemmas.Bool.{eqb-true, eq-eqb}
use Rattle.vt_screen.proofs.Same.{same-word}
use Rattle.vt_screen.specs.Words.{cell_word}
use Rattle.vt_screen.proofs.line.same_cell.Goals as goal

pub returns : goal.returns
returns c =
    let a = c.word.ensures in
    let b = c.word-2.ensures in (
      λ h. same-word c.args.a.now c.args.b.now a.glyph b.glyph a.bound b.bound
          (sym a.word ∙ eqb-true c.word.result c.word-2.result h ∙ b.word),
      λ e. eq-eqb _ _ (a.word ∙ ap cell_word e ∙ sym b.word),
    )
