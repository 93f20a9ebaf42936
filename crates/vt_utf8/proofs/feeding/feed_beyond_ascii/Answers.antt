use Rattle.std.proofs.Common.{◌≡◌, ◌∙◌, false, arith, rules}
use Rattle.vt_utf8.specs.Translation.{is_at_end}
use Rattle.vt_utf8.proofs.Written.{written-itself, wide-itself}
use Rattle.vt_utf8.proofs.feeding.feed_beyond_ascii.Goals as goal

pub returns-clause-silent : goal.returns-clause-silent
returns-clause-silent c =
    c.sized_silence.ensures.silent c.args.terminal.now.display.grid.size c.args.terminal.now c.args.c c.soundness.ensures c.requires.beyond

pub returns-then-found-eq1-clause-state : goal.returns-then-found-eq1-clause-state
returns-then-found-eq1-clause-state c =
    let is = c.if-writes_glyphs.ensures in
    written-itself c.args.terminal.now c.write_glyph.new.self c.args.c c.encoded.result is.1
    (c.sized_writes.ensures.one c.args.terminal.now.display.grid.size c.args.terminal.now c.args.c c.soundness.ensures is.0 c.requires.beyond
    (c.in-Some.ensures.cells ∙ c.if-found-eq1.true))
    (c.encoded.ensures ∙ c.in-Some.ensures.glyph) c.write_glyph.ensures

pub returns-then-not-has_one_cell_left-clause-state : goal.returns-then-not-has_one_cell_left-clause-state
returns-then-not-has_one_cell_left-clause-state c =
    let is = c.if-writes_glyphs.ensures in
    let fits : is_at_end c.args.terminal.now.display ≡ false = search rules in
    wide-itself c.args.terminal.now c.write_both.new.terminal c.args.c c.encoded-then-not-has_one_cell_left.result fits
    (c.sized_writes.ensures.two c.args.terminal.now.display.grid.size c.args.terminal.now c.args.c c.soundness.ensures is.0 is.1 c.requires.beyond
    (c.in-Some.ensures.cells ∙ omega (arith, c.in-Some.ensures.some, c.in-Some.ensures.few, c.if-found-eq1.false)))
    (c.encoded-then-not-has_one_cell_left.ensures ∙ c.in-Some.ensures.glyph) c.write_both.ensures
