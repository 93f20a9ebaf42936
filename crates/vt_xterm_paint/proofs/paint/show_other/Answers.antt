use Rattle.std.proofs.Common.{◌∙◌, ap}
use Rattle.vt_screen.specs.declared.size.Size.{Size}
use Rattle.vt_term.specs.State.{State, display_of, state_of}
use Rattle.vt_term.specs.Pages.{with_page}
use Rattle.vt_xterm_paint.proofs.paint.show_other.Goals as goal

pub returns : goal.returns
returns c =
    let other = c.args.front.now.pages.other in
    let shown : Size → State = λ z. record (state_of z) { display = with_page other (display_of z) } in
    c.show_other.ensures ∙ ap shown c.requires
