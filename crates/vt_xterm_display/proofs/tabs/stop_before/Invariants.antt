-- The stop is left of the place.
use Rattle.std.proofs.Common.{◌≡◌, ◌≤◌}
use Rattle.vt_xterm_display.specs.Tabs.{stop_before}
use Rattle.vt_xterm_display.proofs.tabs.stop_before.Given as goal

abbrev pub invariant-loop-c : goal.invariant-loop-c
invariant-loop-c l = record {
  some : 1 ≤ l.c;
  within : l.c ≤ l.fn.col;
  same : stop_before l.stops l.fn.col ≡ stop_before l.stops l.c;
}

abbrev pub decreases-loop-c : goal.decreases-loop-c
decreases-loop-c l = l.c
