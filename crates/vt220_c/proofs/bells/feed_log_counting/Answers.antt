use Rattle.std.proofs.Common.{rules, ◌≡◌, ◌++◌, ◌∙◌, List, ap, take, arith, length-take}
use Rattle.std.specs.Prelude.{flat_map}
use Rattle.vt_screen.specs.declared.cell.Cell.{Cell}
use Rattle.vt_term.proofs.SizeHappened.{happenings-short}
use Rattle.vt_term.specs.Scrolling.{scrolled_off, log}
use Rattle.vt_term.specs.Text.{line_text}
use Rattle.vt220_c.specs.Bells.{bells}
use Rattle.vt220_c.proofs.Rung.{all-rang}
use Rattle.vt220_c.proofs.bells.feed_log_counting.Goals as goal

pub returns-clause-lines : goal.returns-clause-lines
unfolding log scrolled_off
returns-clause-lines c =
    let s = c.args.terminal.now in
    let bytes = take c.feed_observed-taken.result c.args.piece.now in
    let saw = c.feed_observed-taken.ensures.saw.0 in
    let lines : c.feed_observed-taken.new.observer.lines.now.items
    ≡ c.args.lines.now.items ++ flat_map line_text (scrolled_off s bytes) =
    saw.3.lines (happenings-short _ s.display.grid.size _
    (c.sized_happened.ensures.size s.display.grid.size s bytes c.soundness.ensures) (omega (arith, c.row_text_limit-limit.ensures))) ∙ ap (λ (rows : List (List Cell)). c.args.lines.now.items ++ flat_map line_text rows)
    (c.sized_happened.ensures.lines s.display.grid.size s bytes c.soundness.ensures) in
    search (rules, lines, saw.0)

pub returns-clause-bells : goal.returns-clause-bells
returns-clause-bells c =
    let s = c.args.terminal.now in
    let bytes = take c.feed_observed-taken.result c.args.piece.now in
    all-rang s bytes c.feed_observed-taken.new.observer.beside.count
    (c.sized_happened.ensures.events s.display.grid.size s bytes c.soundness.ensures) c.feed_observed-taken.ensures.saw.1

pub returns-clause-few_bells : goal.returns-clause-few_bells
returns-clause-few_bells c =
    let bytes = take c.feed_observed-taken.result c.args.piece.now in
    omega (
      arith,
      c.feed_observed-taken.ensures.saw.1.few,
      c.sized_happened.ensures.count c.args.terminal.now bytes,
      length-take c.feed_observed-taken.result c.args.piece.now,
      c.feed_observed-taken.ensures.within,
    )
