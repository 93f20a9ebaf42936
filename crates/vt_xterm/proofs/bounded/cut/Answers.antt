use Rattle.std.proofs.Common.{ap, ◌∙◌}
use Rattle.vt_term.specs.State.{State}
use Rattle.vt_xterm.specs.Pages.{screens, shown_by}
use Rattle.vt_xterm.specs.Bounded.{writing_beyond}
use Rattle.vt_xterm.proofs.bounded.cut.Goals as goal

pub returns-clause-terminal : goal.returns-clause-terminal
returns-clause-terminal c =
    c.write_beyond.ensures.terminal
    ∙ ap (λ (x : State). shown_by (writing_beyond c.args.c c.args.sides (screens x c.args.pages.now)) x.held) c.drop_held.ensures

pub returns-clause-pages : goal.returns-clause-pages
returns-clause-pages c =
    c.write_beyond.ensures.pages
    ∙ ap (λ (x : State). (writing_beyond c.args.c c.args.sides (screens x c.args.pages.now)).pages) c.drop_held.ensures
