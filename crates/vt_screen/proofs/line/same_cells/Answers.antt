use Rattle.std.proofs.Common.{arith, refl, sym, ◌∙◌}
use Rattle.std.proofs.lemmas.List.{same_lists, get_or_default}
use Rattle.vt_screen.specs.Cells.{blank}
use Rattle.vt_screen.proofs.line.same_cells.Goals as goal

pub returns : goal.returns
returns c =
    let end = c.loop-at-2.invariant in
    let same = same_lists c.args.a.now c.args.b.now end.long (λ k d below.
    get_or_default c.args.a.now k d blank below ∙ end.same k (omega (arith, c.loop-at-2-test.false))
    ∙ sym (get_or_default c.args.b.now k d blank (omega (arith, end.long)))) in
    (λ _. same, λ _. refl)
