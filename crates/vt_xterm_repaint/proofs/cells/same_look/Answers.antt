use Rattle.std.proofs.Common.{◌∙◌, sym}
use Rattle.vt_xterm_repaint.proofs.Written.{looks-told}
use Rattle.vt_xterm_repaint.proofs.cells.same_look.Goals as goal

pub returns : goal.returns
returns c =
    looks-told c.args.a.look c.args.b.look c.same.result (
      λ is. sym c.cleared.ensures ∙ c.same.ensures.0 is ∙ c.cleared-2.ensures,
      λ is. c.same.ensures.1 (c.cleared.ensures ∙ is ∙ sym c.cleared-2.ensures),
    )
