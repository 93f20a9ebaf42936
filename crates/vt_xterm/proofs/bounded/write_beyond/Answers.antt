use Rattle.std.proofs.Common.{◌≡◌, false, Some, ap, sym, ◌∙◌, arith}
use Rattle.std.specs.Prelude.{◌==◌, nat_lt}
use Rattle.std.proofs.lemmas.Bool.Decides.{nat_tests}
use Rattle.vt_utf8.specs.Cells.{cells}
use Rattle.vt_utf8.specs.Showing.{shown_as}
use Rattle.vt_xterm.specs.Pages.{Screens, screens, shown_by}
use Rattle.vt_xterm.proofs.WrittenBeyond.{wide-beyond}
use Rattle.vt_xterm.proofs.bounded.write_beyond.Goals as goal

pub returns-else-cells-eq1-clause-terminal : goal.returns-else-cells-eq1-clause-terminal
returns-else-cells-eq1-clause-terminal c =
    let beyond : nat_lt c.args.c 0x80 ≡ false = grind (arith, nat_tests, c.requires.beyond) in
    let glyph : shown_as c.args.c ≡ Some c.in-Some.glyph = sym c.shown_as.ensures ∙ c.in-Some.is in
    let other : (cells c.args.c == 1) ≡ false = grind (arith, nat_tests, c.cells.ensures.value, c.if-cells-eq1.false) in
    c.write_wide.ensures.terminal
    ∙ ap (λ (s : Screens). shown_by s c.args.terminal.now.held)
    (sym (wide-beyond c.args.c c.in-Some.glyph c.args.sides (screens c.args.terminal.now c.args.pages.now) beyond glyph other))

pub returns-else-cells-eq1-clause-pages : goal.returns-else-cells-eq1-clause-pages
returns-else-cells-eq1-clause-pages c =
    let beyond : nat_lt c.args.c 0x80 ≡ false = grind (arith, nat_tests, c.requires.beyond) in
    let glyph : shown_as c.args.c ≡ Some c.in-Some.glyph = sym c.shown_as.ensures ∙ c.in-Some.is in
    let other : (cells c.args.c == 1) ≡ false = grind (arith, nat_tests, c.cells.ensures.value, c.if-cells-eq1.false) in
    c.write_wide.ensures.pages
    ∙ ap (λ (s : Screens). s.pages)
    (sym (wide-beyond c.args.c c.in-Some.glyph c.args.sides (screens c.args.terminal.now c.args.pages.now) beyond glyph other))
