use Rattle.std.proofs.Common.{◌++◌, ◌∙◌, List, ap, subst, take, arith}
use Rattle.std.specs.Prelude.{flat_map}
use Rattle.vt_screen.specs.declared.cell.Cell.{Cell}
use Rattle.vt_term.specs.Text.{line_text}
use Rattle.vt_term.proofs.SizeHappened.{happenings-short}
use Rattle.vt_xterm.specs.Terminals.{AreTerminals}
use Rattle.vt_xterm.proofs.log.LinesFinderLineLog.feed.Goals as goal

pub returns-clause-terminals : goal.returns-clause-terminals
returns-clause-terminals c =
    subst AreTerminals
    (c.sized_happened.ensures.events c.args.terminal.now.display.grid.size c.args.terminal.now (take c.feed_observed.result c.args.piece.now)
    c.soundness.ensures) c.feed_observed.ensures.saw.1

pub returns-clause-keeps : goal.returns-clause-keeps
returns-clause-keeps c =
    let bytes = take c.feed_observed.result c.args.piece.now in
    let short = happenings-short c.row_text_limit-self.result c.args.terminal.now.display.grid.size _
    (c.sized_happened.ensures.size c.args.terminal.now.display.grid.size c.args.terminal.now bytes c.soundness.ensures) (omega (arith, c.row_text_limit-self.ensures)) in
    let saw = c.feed_observed.ensures.saw.0 in (
      saw.0,
      saw.2,
      saw.3.lines short ∙ ap (λ (rows : List (List Cell)). c.args.self.now.lines.now.items ++ flat_map line_text rows)
          (c.sized_happened.ensures.lines c.args.terminal.now.display.grid.size c.args.terminal.now bytes c.soundness.ensures),
      saw.4,
      saw.5,
    )
