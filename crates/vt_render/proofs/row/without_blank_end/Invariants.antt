use Rattle.std.proofs.Common.{◌≤◌, length}
use Rattle.vt_render.proofs.row.without_blank_end.Given as goal

abbrev pub invariant-loop-end : goal.invariant-loop-end
invariant-loop-end l = record { within : l.end ≤ length l.cells }

abbrev pub decreases-loop-end : goal.decreases-loop-end
decreases-loop-end l = l.end
