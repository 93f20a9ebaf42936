use Rattle.std.proofs.Common.{arith, ◌%◌}
use Rattle.std.specs.Prelude.{nat_le}
use Rattle.vt_xterm_cell.proofs.Numbers.{bool_bit}
use Rattle.vt_xterm_cell.proofs.Writable.{bare, wide_text}
use Rattle.vt_xterm_cell.proofs.cell.XtermCell.in_look_of.Goals as goal

pub invariant_of-result : goal.invariant_of-result
invariant_of-result c =
    rw c.is_wide.ensures
    (rw (← c.self.view_is) (
      wide_text (c.self.inside.text % 0x200000) _ (nat_le 0x8000000000000000 c.self.inside.text) (omega arith) (bool_bit _)
          (bare _ _ _ _ c.self.invariant.0.writable),
      c.pen.invariant.1,
    ))
