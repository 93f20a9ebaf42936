use Rattle.std.proofs.Common.{◌<◌, ◌≤◌, length}
use Rattle.vt_xterm_update.proofs.rows.is_erasable.Given as goal

abbrev pub invariant-loop-i : goal.invariant-loop-i
invariant-loop-i l = record {
  old : l.end ≤ length l.old;
  new : l.end ≤ length l.new;
  at : l.at < length l.new;
}
