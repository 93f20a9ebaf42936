use Rattle.vt_xterm_cell.proofs.Writable.{glyph_text, glyph_first}
use Rattle.vt_xterm_cell.proofs.cell.XtermCell.written.Goals as goal

pub invariant_of-result : goal.invariant_of-result
invariant_of-result c = rw c.to_char.ensures.value (glyph_text _ c.to_char.ensures.is_glyph, c.self.invariant.1)

pub returns-clause-first : goal.returns-clause-first
returns-clause-first c = rw c.to_char.ensures.value (glyph_first _ c.to_char.ensures.is_glyph)
