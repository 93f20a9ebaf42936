use Rattle.std.proofs.Common.{◌-◌, ◌≤◌, length}
use Rattle.vt_xterm_update.proofs.rows.first_difference.Given as goal

abbrev pub invariant-loop-at : goal.invariant-loop-at
invariant-loop-at l = record {
  old : l.end ≤ length l.old;
  new : l.end ≤ length l.new;
  within : l.at ≤ l.end;
}

abbrev pub decreases-loop-at : goal.decreases-loop-at
decreases-loop-at l = l.end - l.at
