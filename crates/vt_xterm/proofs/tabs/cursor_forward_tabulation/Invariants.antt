-- The cursor is moved so often as the counter says.
use Rattle.std.proofs.Common.{◌≡◌, ◌≤◌, vec_len, vec_capacity}
use Rattle.vt_xterm.specs.Tabs.{tab}
use Rattle.vt_xterm.specs.Repeating.{times}
use Rattle.vt_xterm.proofs.tabs.cursor_forward_tabulation.Given as goal

abbrev pub invariant-loop : goal.invariant-loop
invariant-loop l = record {
  terminal : l.terminal
      ≡ record l.initial.terminal { display = times l.counter tab l.initial.terminal.display };
  out : l.out.items ≡ l.initial.out.items;
  len : vec_len l.out ≡ vec_len l.initial.out;
  capacity : vec_capacity l.initial.out ≤ vec_capacity l.out;
}
