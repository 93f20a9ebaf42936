use Rattle.std.proofs.Common.{◌∙◌, sym, subst, rules}
use Rattle.vt_screen.specs.declared.size.Size.{Size}
use Rattle.vt_term.specs.Sound.{IsSoundAt}
use Rattle.vt_update.proofs.updating.update_reserved.Goals as goal

pub bring-requires-clause-sound : goal.bring-requires-clause-sound
bring-requires-clause-sound c =
    let same = c.same.ensures.0 (search (rules, c.if-not-same.false)) in
    subst (λ (z : Size). IsSoundAt z c.args.shown.now) (sym c.size.ensures.size ∙ same ∙ c.size-2.ensures.size)
    c.soundness.ensures

pub bring-requires-else-size-le-ROWS-clause-sound : goal.bring-requires-else-size-le-ROWS-clause-sound
bring-requires-else-size-le-ROWS-clause-sound c =
    let same = c.same.ensures.0 (search (rules, c.if-not-same.false)) in
    subst (λ (z : Size). IsSoundAt z c.args.shown.now) (sym c.size.ensures.size ∙ same ∙ c.size-2.ensures.size)
    c.soundness.ensures

pub bring-requires-else-size-le-ROWS-clause-rows : goal.bring-requires-else-size-le-ROWS-clause-rows
bring-requires-else-size-le-ROWS-clause-rows c = c.soundness-2.ensures.display.grid.shape.size.rows.1

pub bring-requires-else-size-le-ROWS-clause-columns : goal.bring-requires-else-size-le-ROWS-clause-columns
bring-requires-else-size-le-ROWS-clause-columns c = c.soundness-2.ensures.display.grid.shape.size.columns
