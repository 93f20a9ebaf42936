use Rattle.std.proofs.Common.{arith, rules, ◌≡◌, ◌++◌, ◌∙◌, List, ap, take}
use Rattle.std.specs.Prelude.{flat_map}
use Rattle.vt_screen.specs.declared.cell.Cell.{Cell}
use Rattle.vt_term.specs.Scrolling.{scrolled_off, log}
use Rattle.vt_term.specs.Text.{line_text}
use Rattle.vt_term.proofs.SizeHappened.{happenings-short}
use Rattle.vt_term.proofs.sized.SizedTerminal.feed_log_reserved.Goals as goal

pub returns-clause-lines : goal.returns-clause-lines
unfolding log
returns-clause-lines c =
    let bytes = take c.feed_observed.result c.args.piece.now in
    let saw = c.feed_observed.ensures.saw.0 in
    let lines : c.feed_observed.new.observer.lines.now.items
    ≡ c.args.lines.now.items ++ flat_map line_text (scrolled_off c.args.self.now bytes) =
    saw.3.lines (happenings-short _ c.args.self.now.display.grid.size _
    (c.sized_happened.ensures.size c.args.self.now.display.grid.size c.args.self.now bytes c.soundness.ensures)
    (omega (arith, c.row_text_limit-limit.ensures))) ∙ ap (λ (rows : List (List Cell)). c.args.lines.now.items ++ flat_map line_text rows)
    (c.sized_happened.ensures.lines c.args.self.now.display.grid.size c.args.self.now bytes c.soundness.ensures) in
    search (rules, lines, saw.0)
