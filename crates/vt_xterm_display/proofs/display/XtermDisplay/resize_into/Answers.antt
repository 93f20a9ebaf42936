use Rattle.std.proofs.Common.{rules, sym, subst}
use Rattle.vt_xterm_display.specs.Sound.{IsSoundXterm}
use Rattle.vt_xterm_display.proofs.Resized.{xterm_on-sound}
use Rattle.vt_xterm_display.proofs.display.XtermDisplay.resize_into.Goals as goal

pub returns : goal.returns
returns c = search rules

pub invariant_of-target : goal.invariant_of-target
invariant_of-target c =
    subst IsSoundXterm (sym (returns c))
    (xterm_on-sound c.args.target.now.shown.grid.size c.args.self.now c.size-size.ensures.is_size c.soundness.ensures.own
    c.soundness.ensures.shown)
