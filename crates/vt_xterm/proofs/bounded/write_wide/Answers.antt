use Rattle.std.proofs.Common.{◌≡◌, true, rules, sym, ap, ◌∙◌}
use Rattle.vt_term.specs.declared.state.Modes.{Modes}
use Rattle.vt_xterm.specs.Bounded.{is_at_end}
use Rattle.vt_xterm.proofs.WrittenBeyond.{wide-shown, wide-pages}
use Rattle.vt_xterm.proofs.bounded.write_wide.Goals as goal

pub returns-then-modes-clause-terminal : goal.returns-then-modes-clause-terminal
returns-then-modes-clause-terminal c =
    let end : c.has_one_cell_left.result ≡ true = search rules in
    let at : is_at_end c.args.sides c.args.terminal.now.display ≡ true = sym c.has_one_cell_left.ensures ∙ end in
    let wraps : c.args.terminal.now.display.modes.decawm ≡ true = ap (λ (m : Modes). m.decawm) (sym c.modes.ensures) ∙ c.if-modes.true in
    wide-shown c.args.glyph c.args.sides c.args.terminal.now c.next_line.new.terminal _ c.args.pages.now at wraps c.next_line.ensures
    c.write_both-then-modes.ensures.terminal

pub returns-then-modes-clause-pages : goal.returns-then-modes-clause-pages
returns-then-modes-clause-pages c =
    let end : c.has_one_cell_left.result ≡ true = search rules in
    let at : is_at_end c.args.sides c.args.terminal.now.display ≡ true = sym c.has_one_cell_left.ensures ∙ end in
    let wraps : c.args.terminal.now.display.modes.decawm ≡ true = ap (λ (m : Modes). m.decawm) (sym c.modes.ensures) ∙ c.if-modes.true in
    wide-pages c.args.glyph c.args.sides c.args.terminal.now c.next_line.new.terminal c.args.pages.now _ at wraps c.next_line.ensures
    c.write_both-then-modes.ensures.pages
