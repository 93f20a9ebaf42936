-- The modes of the parameters so far are changed.
use Rattle.std.proofs.Common.{◌≡◌, take}
use Rattle.vt_xterm_display.specs.Pages.{change_modes}
use Rattle.vt_xterm_display.proofs.display.XtermDisplay.change_modes.Given as goal

abbrev pub invariant-loop-p : goal.invariant-loop-p
invariant-loop-p l = l.self ≡ change_modes l.on (take l.p-index l.params) l.initial.self
