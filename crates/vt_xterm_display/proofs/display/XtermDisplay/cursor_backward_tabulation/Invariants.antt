-- The cursor is moved so often as the counter says.
use Rattle.std.proofs.Common.{◌≡◌}
use Rattle.vt_xterm_display.specs.State.{moved}
use Rattle.vt_xterm_display.specs.Tabs.{times, back_tab}
use Rattle.vt_xterm_display.proofs.display.XtermDisplay.cursor_backward_tabulation.Given as goal

abbrev pub invariant-loop : goal.invariant-loop
invariant-loop l = l.self ≡ times l.counter (moved back_tab) l.initial.self
