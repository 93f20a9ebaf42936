use Rattle.std.proofs.Common.{subst, sym, ◌∙◌}
use Rattle.vt_term.specs.State.{State}
use Rattle.vt_term.specs.Pages.{IsSoundPageAt}
use Rattle.vt_xterm.specs.Pages.{PagesState, screens}
use Rattle.vt_xterm.proofs.SoundScreens.{change_page_modes-keeps}
use Rattle.vt_xterm.proofs.modes.modes_keep_size.Goals as goal

pub returns : goal.returns
returns c = λ params.
    let t : State = c.args.terminal.now in
    let pages : PagesState = c.args.pages.now in
    let after = change_page_modes-keeps c.glyphs.ensures c.soundness-3.ensures c.args.on params t.display.grid.size
    (screens t pages)
    (c.soundness.ensures.display, subst (λ z. IsSoundPageAt z pages.other) c.requires c.soundness-2.ensures) in
    after.1.of_size ∙ sym after.0.of_size
