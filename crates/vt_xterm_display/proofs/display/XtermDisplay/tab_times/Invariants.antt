-- The cursor is moved so often as the counter says.
use Rattle.std.proofs.Common.{◌≡◌}
use Rattle.vt_xterm_display.specs.State.{moved}
use Rattle.vt_xterm_display.specs.Tabs.{times, horizontal_tab}
use Rattle.vt_xterm_display.proofs.display.XtermDisplay.tab_times.Given as goal

abbrev pub invariant-loop : goal.invariant-loop
invariant-loop l = l.self ≡ times l.counter (moved horizontal_tab) l.initial.self
