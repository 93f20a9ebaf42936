use Rattle.std.proofs.Common.{◌≡◌, ◌++◌, ◌∙◌, List, false, sym, ap, arith, rules}
use Rattle.std.specs.Prelude.{flat_map}
use Rattle.vt_screen.specs.declared.cell.Cell.{Cell}
use Rattle.vt_term.specs.Scrolling.{log}
use Rattle.vt_term.specs.Text.{line_text}
use Rattle.vt_utf8.specs.Translation.{is_at_end}
use Rattle.vt_utf8.proofs.Written.{written-itself, wide-itself}
use Rattle.vt_utf8.proofs.feeding.feed_beyond_ascii_log.Goals as goal

pub returns-clause-silent : goal.returns-clause-silent
returns-clause-silent c =
    c.sized_silence.ensures.silent c.args.terminal.now.display.grid.size c.args.terminal.now c.args.c c.soundness.ensures c.requires.beyond

pub returns-then-found-eq1-clause-silent : goal.returns-then-found-eq1-clause-silent
returns-then-found-eq1-clause-silent c =
    c.sized_silence.ensures.silent c.args.terminal.now.display.grid.size c.args.terminal.now c.args.c c.soundness.ensures c.requires.beyond

pub returns-then-found-eq1-clause-state : goal.returns-then-found-eq1-clause-state
returns-then-found-eq1-clause-state c =
    let is = c.if-writes_glyphs.ensures in
    written-itself c.args.terminal.now c.write_logged.new.terminal c.args.c c.encoded.result is.1
    (c.sized_writes.ensures.one c.args.terminal.now.display.grid.size c.args.terminal.now c.args.c c.soundness.ensures is.0 c.requires.beyond
    (c.in-Some.ensures.cells ∙ c.if-found-eq1.true))
    (c.encoded.ensures ∙ c.in-Some.ensures.glyph) c.write_logged.ensures.terminal

pub returns-then-found-eq1-clause-lines : goal.returns-then-found-eq1-clause-lines
unfolding log
returns-then-found-eq1-clause-lines c =
    let is = c.if-writes_glyphs.ensures in
    c.write_logged.ensures.lines
    ∙ ap (λ (rows : List (List Cell)). c.args.lines.now.items ++ flat_map line_text rows)
    (sym (c.sized_writes.ensures.off c.args.terminal.now.display.grid.size c.args.terminal.now c.args.c c.soundness.ensures is.0 c.requires.beyond
    (c.in-Some.ensures.cells ∙ c.if-found-eq1.true)))

pub returns-then-not-has_one_cell_left-clause-state : goal.returns-then-not-has_one_cell_left-clause-state
returns-then-not-has_one_cell_left-clause-state c =
    let is = c.if-writes_glyphs.ensures in
    let fits : is_at_end c.args.terminal.now.display ≡ false = search rules in
    wide-itself c.args.terminal.now c.write_both_logged.new.terminal c.args.c c.encoded-then-not-has_one_cell_left.result fits
    (c.sized_writes.ensures.two c.args.terminal.now.display.grid.size c.args.terminal.now c.args.c c.soundness.ensures is.0 is.1 c.requires.beyond
    (c.in-Some.ensures.cells ∙ omega (arith, c.in-Some.ensures.some, c.in-Some.ensures.few, c.if-found-eq1.false)))
    (c.encoded-then-not-has_one_cell_left.ensures ∙ c.in-Some.ensures.glyph) c.write_both_logged.ensures.terminal

pub returns-then-not-has_one_cell_left-clause-lines : goal.returns-then-not-has_one_cell_left-clause-lines
unfolding log
returns-then-not-has_one_cell_left-clause-lines c =
    let is = c.if-writes_glyphs.ensures in
    let fits : is_at_end c.args.terminal.now.display ≡ false = search rules in
    c.write_both_logged.ensures.lines
    ∙ ap (λ (rows : List (List Cell)). c.args.lines.now.items ++ flat_map line_text rows)
    (sym (c.sized_writes.ensures.two_off c.args.terminal.now.display.grid.size c.args.terminal.now c.args.c c.soundness.ensures is.0 is.1 c.requires.beyond
    (c.in-Some.ensures.cells ∙ omega (arith, c.in-Some.ensures.some, c.in-Some.ensures.few, c.if-found-eq1.false)) fits))
