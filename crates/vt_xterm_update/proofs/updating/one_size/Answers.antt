use Rattle.std.proofs.Common.{◌≡◌, subst}
use Rattle.vt_xterm_display.specs.State.{XtermState}
use Rattle.vt_xterm_update.proofs.updating.one_size.Goals as goal

pub returns : goal.returns
returns c =
    subst (λ (s : XtermState). s.other.grid.size ≡ s.shown.grid.size) c.screen.ensures c.soundness.ensures.own.one_size
