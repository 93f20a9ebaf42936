-- The modes of the parameters so far are changed.
use Rattle.std.proofs.Common.{◌≡◌, take}
use Rattle.vt_term.specs.Modes.{change_modes, ansi_modes_any}
use Rattle.vt_xterm_display.specs.State.{on_shown}
use Rattle.vt_xterm_display.proofs.display.XtermDisplay.change_ansi_modes.Given as goal

abbrev pub invariant-loop-p : goal.invariant-loop-p
invariant-loop-p l = l.self ≡ on_shown (change_modes ansi_modes_any l.on (take l.p-index l.params)) l.initial.self
