-- The cursor is moved so often as the counter says.
use Rattle.std.proofs.Common.{◌≡◌}
use Rattle.vt_xterm.specs.Repeating.{times}
use Rattle.vt_xterm.specs.Sides as between
use Rattle.vt_xterm.proofs.sides.Sides.cursor_backward_tabulation.Given as goal

abbrev pub invariant-loop : goal.invariant-loop
invariant-loop l = l.terminal
    ≡ record l.initial.terminal { display = times l.counter (between.back_tab l.fn.self) l.initial.terminal.display }
