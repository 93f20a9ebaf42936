use Rattle.std.proofs.Common.{◌≡◌, ◌*◌, ◌-◌, ◌≤◌, length, take}
use Rattle.std.specs.Prelude.{vec_capacity}
use Rattle.vt_term.specs.Play.{play}
use Rattle.vt_term.specs.Scrolling.{log}
use Rattle.vt220_c.specs.Bells.{bells}
use Rattle.vt220_c.specs.Written.{written_over}
use Rattle.vt220_c.proofs.inner.Inner.feed_log.Given as goal

abbrev pub invariant-loop-taken : goal.invariant-loop-taken
invariant-loop-taken l = record {
  within : l.taken ≤ length l.piece;
  state : l.self ≡ (play l.initial.self (take l.taken l.piece)).state;
  written : l.written ≡ length (play l.initial.self (take l.taken l.piece)).reports;
  out : l.out ≡ written_over (play l.initial.self (take l.taken l.piece)).reports l.initial.out;
  fits : l.written ≤ length l.initial.out;
  lines_written : l.lines_written ≡ length (log l.initial.self (take l.taken l.piece));
  lines : l.lines ≡ written_over (log l.initial.self (take l.taken l.piece)) l.initial.lines;
  lines_fit : l.lines_written ≤ length l.initial.lines;
  capacity : vec_capacity l.initial.room ≤ vec_capacity l.room;
  few : l.bells ≤ l.taken;
  few_reports : l.written ≤ 10 * l.taken;
  size : l.self.display.grid.size ≡ l.initial.self.display.grid.size;
  bells : l.bells ≡ bells l.initial.self.held (take l.taken l.piece);
}

abbrev pub decreases-loop-taken : goal.decreases-loop-taken
decreases-loop-taken l = length l.piece - l.taken
