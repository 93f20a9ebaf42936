use Rattle.std.proofs.Common.{refl, sym, ◌∙◌}
use Rattle.vt_xterm_cell.proofs.Readings.{neither, colourless}
use Rattle.vt_xterm_cell.proofs.cell.XtermCell.carry_out_long.Goals as goal

pub returns-else-p-eq48 : goal.returns-else-p-eq48
returns-else-p-eq48 c = neither _ _ c.requires.long c.if-p-eq38.false c.if-p-eq48.false

pub returns-in_default : goal.returns-in_default
returns-in_default c = colourless _ _ _ _ c.requires.long refl refl (sym c.long_colour.ensures ∙ c.in_default.is)
