use Rattle.std.proofs.Common.{◌≡◌, ◌∙◌, ◌++◌, ap, arith}
use Rattle.vt_screen.specs.declared.size.Size.{Size}
use Rattle.vt_term.specs.State.{State}
use Rattle.vt_paint.specs.Limits.{paint_limit}
use Rattle.vt_syntax.specs.Spelling.{spell_events}
use Rattle.vt_paint.specs.Repaint.{made_events}
use Rattle.vt_xterm_paint.proofs.paint.push_hidden.Goals as goal

pub repaint_items_reserved-requires : goal.repaint_items_reserved-requires
repaint_items_reserved-requires c =
    let same : c.show_other.new.scratch.display.grid.size ≡ c.args.t.now.display.grid.size =
    ap (λ (s : State). s.display.grid.size) c.show_other.ensures ∙ c.requires.size in
    omega (arith, c.requires.room, ap (λ (z : Size). paint_limit z) same)

pub returns-clause-bounded : goal.returns-clause-bounded
returns-clause-bounded c =
    let same : c.show_other.new.scratch.display.grid.size ≡ c.args.t.now.display.grid.size =
    ap (λ (s : State). s.display.grid.size) c.show_other.ensures ∙ c.requires.size in
    omega (arith, c.repaint_items_reserved.ensures.bounded, ap (λ (z : Size). paint_limit z) same)

pub returns-clause-items : goal.returns-clause-items
returns-clause-items c =
    c.repaint_items_reserved.ensures.items
    ∙ ap (λ (s : State). c.args.out.now.items ++ spell_events (made_events s.display)) c.show_other.ensures
