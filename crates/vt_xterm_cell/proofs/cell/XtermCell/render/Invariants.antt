use Rattle.std.proofs.Common.{◌≡◌, ◌-◌, length, drop}
use Rattle.vt_xterm_cell.specs.Rendition.{rendered}
use Rattle.vt_xterm_cell.proofs.cell.XtermCell.render.Given as goal

abbrev pub invariant-loop-at : goal.invariant-loop-at
invariant-loop-at l = rendered (drop l.at l.params) l.self.look ≡ rendered l.params l.initial.self.look

abbrev pub decreases-loop-at : goal.decreases-loop-at
decreases-loop-at l = length l.params - l.at
