-- The letters before the place are written.
use Rattle.std.proofs.Common.{◌≡◌, ◌-◌, ◌≤◌, length, map, take}
use Rattle.vt_feed.specs.Actions.{printed, state_after}
use Rattle.vt_xterm_display.specs.Writing.{WritesLetters}
use Rattle.vt_xterm_display.specs.Functions.{xterm}
use Rattle.vt_xterm_display.proofs.display.XtermDisplay.write_lines.Given as goal

abbrev pub invariant-loop-at : goal.invariant-loop-at
invariant-loop-at l = record {
  within : l.at ≤ length l.run;
  written : l.self ≡ state_after xterm (map printed (take l.at l.run)) l.initial.self;
  writes : WritesLetters l.self;
}

abbrev pub decreases-loop-at : goal.decreases-loop-at
decreases-loop-at l = length l.run - l.at
