use Rattle.std.proofs.Common.{◌≡◌, ◌≤◌, true, length, drop}
use Rattle.vt_xterm_repaint.specs.Cells.{are_blank}
use Rattle.vt_xterm_repaint.proofs.cells.shown_len.Given as goal

abbrev pub invariant-loop-end : goal.invariant-loop-end
invariant-loop-end l = record {
  within : l.end ≤ length l.cells;
  blank : are_blank (drop l.end l.cells) ≡ true;
}

abbrev pub decreases-loop-end : goal.decreases-loop-end
decreases-loop-end l = l.end
