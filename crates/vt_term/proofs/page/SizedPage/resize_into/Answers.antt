use Rattle.std.proofs.Common.{rules, ap, sym, subst}
use Rattle.vt_screen.specs.Sizes.{IsSize}
use Rattle.vt_screen.specs.Grid.{Grid}
use Rattle.vt_term.specs.Pages.{PageState, IsSoundSizedPage}
use Rattle.vt_term.proofs.Resized.{page_on-sound}
use Rattle.vt_term.proofs.page.SizedPage.resize_into.Goals as goal

pub returns : goal.returns
returns c = search rules

pub invariant_of-target : goal.invariant_of-target
invariant_of-target c =
    subst IsSoundSizedPage (sym (returns c))
    (page_on-sound c.args.target.now.grid.size c.args.off c.args.self.now
    (subst IsSize (ap (λ (g : Grid). g.size) (ap (λ (p : PageState). p.grid) c.target.view_is)) c.size-size.ensures.sound)
    c.soundness.ensures)
