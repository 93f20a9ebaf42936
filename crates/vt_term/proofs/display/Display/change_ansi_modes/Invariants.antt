use Rattle.std.proofs.Common.{◌≡◌, take}
use Rattle.vt_term.specs.Modes.{change_modes, ansi_modes_any}
use Rattle.vt_term.proofs.display.Display.change_ansi_modes.Given as goal

abbrev pub invariant-loop-p : goal.invariant-loop-p
invariant-loop-p g l = l.self ≡ change_modes ansi_modes_any l.on (take l.p-index l.params) l.initial.self
