use Rattle.std.proofs.Common.{arith, refl, sym, ◌∙◌}
use Rattle.std.proofs.lemmas.List.{same_lists, get_or_default}
use Rattle.vt_xterm_cell.specs.Cells.{blank_cell}
use Rattle.vt_xterm_cell.proofs.cell.same_cells.Goals as goal

pub returns : goal.returns
returns c =
    let end = c.loop-at.invariant in
    let same = same_lists c.args.a.now c.args.b.now end.long (λ k d below.
    get_or_default c.args.a.now k d blank_cell below ∙ end.same k (omega (arith, c.loop-at-test.false))
    ∙ sym (get_or_default c.args.b.now k d blank_cell (omega (arith, end.long)))) in
    (λ _. same, λ _. refl)
