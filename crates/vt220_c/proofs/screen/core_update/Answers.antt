use Rattle.std.proofs.Common.{arith, ◌≡◌, ◌≢◌, ◌↔◌, ◌⊎◌, ◌≤◌}
use Rattle.vt_syntax.specs.declared.held.Held.TheVariants.{Nothing}
use Rattle.vt_screen.specs.declared.size.Size.{Size}
use Rattle.vt_term.specs.State.{State}
use Rattle.vt_paint.specs.Changes.{differing_at}
use Rattle.vt_paint.specs.Limits.{changes_limit}
use Rattle.vt220_c.specs.Sizes.{AreOfSize}
use Rattle.vt220_c.specs.Status.{status_partial, status_size}
use Rattle.std.proofs.lemmas.Grind.{common_steps}
use Rattle.vt220_c.proofs.Both.{if-both, if-all, agree, agree-all}
use Rattle.vt220_c.proofs.screen.core_update.Goals as goal

pub returns-clause-to : goal.returns-clause-to
returns-clause-to c = grind (arith, common_steps)

pub returns-clause-scratch : goal.returns-clause-scratch
returns-clause-scratch c = grind (arith, common_steps)

pub returns-clause-closed : goal.returns-clause-closed
returns-clause-closed c = grind (arith, common_steps)

pub returns-clause-partial : goal.returns-clause-partial
returns-clause-partial c = λ closed size.
    if-both _ c.args.shown.now.kept.inside c.args.to.now.kept.inside (λ a b first second. agree (λ (x y : State). (c.update_between-status.result ≡ status_partial)
    ↔ ((x.held ≢ Nothing) ⊎ (y.held ≢ Nothing))) c.deref_mut-2.result.now a c.terminal.result.now b (c.update_between-status.ensures.partial size)
    (grind (arith, common_steps)) (grind (arith, common_steps)))

pub returns-clause-other_size : goal.returns-clause-other_size
returns-clause-other_size c =
    if-all _ c.args.shown.now.kept.inside c.args.to.now.kept.inside c.args.s.now.kept.inside (λ a b size first second third.
    agree-all (λ (x y : State) (z : Size). (c.update_between-status.result ≡ status_size) ↔ (AreOfSize z x y → ⊥)) c.deref_mut-2.result.now a
    c.terminal.result.now b c.deref_mut.result.now size c.update_between-status.ensures.other_size (grind (arith, common_steps))
    (grind (arith, common_steps)) (grind (arith, common_steps)))

pub returns-clause-room : goal.returns-clause-room
returns-clause-room c = grind (arith, common_steps)

pub returns-clause-ok : goal.returns-clause-ok
returns-clause-ok c = grind (arith, common_steps)

pub returns-clause-leads : goal.returns-clause-leads
returns-clause-leads c = grind (arith, common_steps)

pub returns-clause-nothing : goal.returns-clause-nothing
returns-clause-nothing c = grind (arith, common_steps)

pub returns-clause-small : goal.returns-clause-small
returns-clause-small c =
    if-both _ c.args.shown.now.kept.inside c.args.to.now.kept.inside (λ a b first second. agree (λ (x y : State). x.display.grid.width ≡ y.display.grid.width
    → x.display.stops ≡ y.display.stops → c.update_between-status.new.written ≤ changes_limit y.display.grid.size
    (differing_at y.display.grid.size x.display.grid y.display.grid)) c.deref_mut-2.result.now a c.terminal.result.now b c.update_between-status.ensures.small
    (grind (arith, common_steps)) (grind (arith, common_steps)))

pub returns-clause-bounded : goal.returns-clause-bounded
returns-clause-bounded c = grind (arith, common_steps)

pub returns-clause-speaks : goal.returns-clause-speaks
returns-clause-speaks c = grind (arith, common_steps)

pub returns-clause-ascii : goal.returns-clause-ascii
returns-clause-ascii c = grind (arith, common_steps)

pub returns-clause-repaint : goal.returns-clause-repaint
returns-clause-repaint c = grind (arith, common_steps)

pub returns-clause-none : goal.returns-clause-none
returns-clause-none c = grind (arith, common_steps)

pub returns-clause-unchanged : goal.returns-clause-unchanged
returns-clause-unchanged c = grind (arith, common_steps)

pub returns-clause-answers : goal.returns-clause-answers
returns-clause-answers c = grind (arith, common_steps)
