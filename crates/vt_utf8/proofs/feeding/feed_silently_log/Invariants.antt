-- The bytes before the place are played, none of them caused a report, and their lines are appended.
use Rattle.std.proofs.Common.{◌≡◌, ◌+◌, ◌-◌, ◌*◌, ◌≤◌, ◌++◌, length, take, vec_len, vec_capacity}
use Rattle.vt_term.specs.Play.{play}
use Rattle.vt_term.specs.Scrolling.{log}
use Rattle.vt_term.specs.Text.{row_text_limit}
use Rattle.vt_utf8.proofs.feeding.feed_silently_log.Given as goal

abbrev pub invariant-loop-at : goal.invariant-loop-at
invariant-loop-at l = record {
  within : l.at ≤ length l.bytes;
  some : 1 ≤ l.most;
  room : vec_len l.out + 10 * l.most ≤ vec_capacity l.out;
  state : l.terminal ≡ (play l.initial.terminal (take l.at l.bytes)).state;
  items : l.out.items ≡ l.initial.out.items;
  capacity : vec_capacity l.initial.out ≤ vec_capacity l.out;
  lines : l.lines.items ≡ l.initial.lines.items ++ log l.initial.terminal (take l.at l.bytes);
  bounded : vec_len l.lines ≤ vec_len l.initial.lines + row_text_limit l.initial.terminal.display.grid.size * l.at;
  lines_capacity : vec_capacity l.initial.lines ≤ vec_capacity l.lines;
}

abbrev pub decreases-loop-at : goal.decreases-loop-at
decreases-loop-at l = length l.bytes - l.at
