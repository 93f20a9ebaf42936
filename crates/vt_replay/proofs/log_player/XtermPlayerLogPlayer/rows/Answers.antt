use Rattle.std.proofs.Common.{◌≡◌, ap, arith, subst}
use Rattle.vt_screen.specs.declared.size.Size.{Size}
use Rattle.vt_term.specs.Pages.{PageState, IsSoundPageAt, IsSoundSizedPage}
use Rattle.vt_xterm.specs.Play.{behind}
use Rattle.vt_xterm.specs.Resizing.{main_row}
use Rattle.vt_replay.proofs.MainRows.{main_row_1, main_row_last}
use Rattle.vt_replay.specs.Resizes.{XtermKept}
use Rattle.vt_replay.proofs.log_player.XtermPlayerLogPlayer.rows.Goals as goal

-- the page has the terminal's size
page-here : {size : Size} {page : PageState} → page.grid.size ≡ size → IsSoundSizedPage page → IsSoundPageAt size page
page-here {size} {page} is sound = subst (λ s. IsSoundPageAt s page) is sound

pub returns-clause-none : goal.returns-clause-none
returns-clause-none c = c.log_cuts.ensures.none _ _

pub returns-clause-some : goal.returns-clause-some
returns-clause-some c =
    main_row_1 (behind c.args.self.now.terminal c.args.self.now.front) c.soundness.ensures (page-here c.args.self.now.one_size c.size-2.ensures.page)

pub returns-clause-most : goal.returns-clause-most
returns-clause-most c =
    let last = main_row_last (behind c.args.self.now.terminal c.args.self.now.front) c.soundness.ensures
    (page-here c.args.self.now.one_size c.size-2.ensures.page) in
    omega (arith, last, c.size.ensures.sound.rows.1)

pub returns-clause-begun : goal.returns-clause-begun
returns-clause-begun c = λ size is. ap (λ (k : XtermKept). main_row k.whole) is
