-- The character is written so often as the counter says.
use Rattle.std.proofs.Common.{◌≡◌}
use Rattle.vt_xterm_display.specs.Tabs.{times}
use Rattle.vt_xterm_display.specs.Writing.{write}
use Rattle.vt_xterm_display.proofs.display.XtermDisplay.write_times.Given as goal

abbrev pub invariant-loop : goal.invariant-loop
invariant-loop l = l.self ≡ times l.counter (write l.cell) l.initial.self
