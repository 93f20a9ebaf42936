use Rattle.std.proofs.Common.{◌≡◌, take}
use Rattle.vt_term.specs.Modes.{change_modes, private_modes_any}
use Rattle.vt_term.specs.Kinds.{kind_of}
use Rattle.vt_term.proofs.display.Display.change_private_modes.Given as goal

abbrev pub invariant-loop-p : goal.invariant-loop-p
invariant-loop-p g l = l.self ≡ change_modes (private_modes_any (kind_of g.K.Cells.cells g.K.Kind.own)) l.on (take l.p-index l.params) l.initial.self
