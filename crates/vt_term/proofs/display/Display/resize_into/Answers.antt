use Rattle.std.proofs.Common.{rules}
use Rattle.vt_term.proofs.Resized.{brought-sound}
use Rattle.vt_term.proofs.display.Display.resize_into.Goals as goal

pub returns : goal.returns
returns g c = search rules

pub invariant_of-target : goal.invariant_of-target
invariant_of-target g c =
    brought-sound g.K.Cells.cells.blank c.args.self.now _ c.args.target.now _ g.met.K.Cells.blank_shown c.target.view_is
    c.size-size.ensures.sound c.soundness.ensures (returns g c)
