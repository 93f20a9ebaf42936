use Rattle.std.proofs.Common.{◌∙◌, ap, sym}
use Rattle.vt_xterm_cell.specs.Words.{CellParts}
use Rattle.vt_xterm_cell.specs.Cells.{space_with}
use Rattle.vt_xterm_cell.specs.declared.look.Look.{Look}
use Rattle.vt_xterm_cell.proofs.kind.XtermCellKind.same_brush.Goals as goal

pub returns : goal.returns
returns c = (
  λ is. ap (λ (cell : CellParts). cell.look) (sym c.space.ensures ∙ c.same.ensures.0 is ∙ c.space-2.ensures),
  λ is. c.same.ensures.1 (c.space.ensures ∙ ap (λ (look : Look). space_with look) is ∙ sym c.space-2.ensures),
)
