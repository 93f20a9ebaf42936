use Rattle.std.proofs.Common.{◌∙◌, sym}
use Rattle.vt_xterm_repaint.proofs.Written.{blank-told}
use Rattle.vt_xterm_repaint.proofs.cells.is_blank.Goals as goal

pub returns : goal.returns
returns c =
    blank-told c.args.cell.now c.same.result (
      λ is. c.same.ensures.0 is ∙ c.blank.ensures,
      λ is. c.same.ensures.1 (is ∙ sym c.blank.ensures),
    )
