use Rattle.std.proofs.Common.{ap, sym, take, ◌∙◌}
use Rattle.vt_term.specs.State.{State}
use Rattle.vt_xterm.specs.Pages.{PagesState}
use Rattle.vt_xterm.proofs.modes.change_modes.Goals as goal

pub change_mode-requires : goal.change_mode-requires
change_mode-requires c =
    ap (λ (p : PagesState). p.other.grid.size) c.loop-p.invariant.pages
    ∙ c.modes_keep_size.ensures (take c.loop-p.p-index c.args.params.now)
    ∙ sym (ap (λ (s : State). s.display.grid.size) c.loop-p.invariant.terminal)
