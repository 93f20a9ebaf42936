use Rattle.std.proofs.Common.{◌∙◌, [], sym, arith}
use Rattle.vt_term.proofs.sized.SizedTerminal.line_off_reserved.Goals as goal

pub row_text_reserved-requires-clause-room : goal.row_text_reserved-requires-clause-room
row_text_reserved-requires-clause-room c = c.requires [] (sym (c.scrolls_off.ensures []) ∙ c.if-scrolls_off.true)

pub row_text_reserved-requires-clause-row : goal.row_text_reserved-requires-clause-row
row_text_reserved-requires-clause-row c = (omega arith, omega (arith, c.size.ensures.sound.rows))
