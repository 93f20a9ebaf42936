use Rattle.std.proofs.Common.{sym, ◌∙◌}
use Rattle.vt_xterm_cell.proofs.Readings.{long_taken, short_taken}
use Rattle.vt_xterm_cell.proofs.cell.XtermCell.carry_out.Goals as goal

pub returns-then-is_long-clause-look : goal.returns-then-is_long-clause-look
returns-then-is_long-clause-look c =
    long_taken _ _ _ _ c.requires (sym c.is_long.ensures ∙ c.if-is_long.true) c.long_end.ensures c.carry_out_long.ensures

pub returns-else-is_long-clause-look : goal.returns-else-is_long-clause-look
returns-else-is_long-clause-look c =
    short_taken _ _ _ c.requires (sym c.is_long.ensures ∙ c.if-is_long.false) c.change.ensures
