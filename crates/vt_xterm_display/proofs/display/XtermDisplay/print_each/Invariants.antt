-- The bytes before the place are written.
use Rattle.std.proofs.Common.{◌≡◌, take, map}
use Rattle.vt_feed.specs.Actions.{printed, state_after}
use Rattle.vt_xterm_display.specs.Functions.{xterm}
use Rattle.vt_xterm_display.proofs.display.XtermDisplay.print_each.Given as goal

abbrev pub invariant-loop-b : goal.invariant-loop-b
invariant-loop-b l = l.self ≡ state_after xterm (map printed (take l.b-index l.run)) l.initial.self
