use Rattle.std.proofs.Common.{arith}
use Rattle.vt_xterm_cell.proofs.Writable.{letter_columns, narrow_text}
use Rattle.vt_xterm_cell.proofs.cell.XtermCellWide.with_byte.Goals as goal

pub invariant_of-result : goal.invariant_of-result
invariant_of-result c =
    (narrow_text _ (omega (arith, c.requires.1)) (letter_columns _ c.requires.0 c.requires.1), c.self.invariant.1)
