use Rattle.std.proofs.Common.{sym, ap, ◌∙◌}
use Rattle.vt_xterm_cell.specs.Cells.{is_second}
use Rattle.vt_xterm_cell.proofs.Digits.{first_marked, second_marked}
use Rattle.vt_xterm_cell.proofs.cell.XtermCell.marked.Goals as goal
use Rattle.vt_xterm_cell.proofs.cell.XtermCell.marked.Goals.{then-text-eq0, else-text-eq0+then-text-eq0-2, else-text-eq0+else-text-eq0-2}

pub invariant_of-result-2 : goal.invariant_of-result-2
invariant_of-result-2 c =
    let first = ap is_second c.self.view_is ∙ sym c.is_second.ensures ∙ c.if-is_second.false in
    let mark = sym c.is_mark.ensures ∙ c.if-not-is_mark.false in
    elim c.if-text-eq0.branch [
      | then-text-eq0 w ↦
          rw w.text-is (first_marked _ _ c.self.invariant.0 first c.ranges.mark.0 mark c.ranges.mark.1.1 w.if-text-eq0.true, c.self.invariant.1)
      | else-text-eq0+then-text-eq0-2 w ↦
          rw w.text-is (second_marked _ _ c.self.invariant.0 first c.ranges.mark.0 mark c.ranges.mark.1.1 w.if-text-eq0.false w.if-text-eq0-2.true, c.self.invariant.1)
      | else-text-eq0+else-text-eq0-2 w ↦ rw w.text-is c.self.invariant
    ]
