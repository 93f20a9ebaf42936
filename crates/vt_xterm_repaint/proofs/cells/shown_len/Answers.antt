use Rattle.std.proofs.Common.{◌∙◌, ◌-◌, arith, sym}
use Rattle.vt_xterm_repaint.proofs.Written.{shown-up-to}
use Rattle.vt_xterm_repaint.proofs.cells.shown_len.Goals as goal

pub returns-else-is_blank-clause-shown : goal.returns-else-is_blank-clause-shown
returns-else-is_blank-clause-shown c n below =
    shown-up-to c.args.cells.now (c.loop-end.end - 1) c.index-cells-end.result (omega (arith, c.loop-end.invariant.within))
    c.index-cells-end.is (sym c.is_blank.ensures ∙ c.if-is_blank.false) n (omega arith)
