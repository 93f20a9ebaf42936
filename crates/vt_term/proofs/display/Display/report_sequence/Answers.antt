use Rattle.std.proofs.Common.{◌≡◌, ◌++◌, ◌∙◌, ℕ, List, false, eqb, ap, sym, arith, append-nil}
use Rattle.std.proofs.lemmas.Bool.Decides.{nat_tests}
use Rattle.vt_term.specs.Kinds.{kind_of}
use Rattle.vt_term.proofs.Silent.{silent-sequence}
use Rattle.vt_term.proofs.display.Display.report_sequence.Goals as goal

pub returns-else-last-eq110-clause-items : goal.returns-else-last-eq110-clause-items
returns-else-last-eq110-clause-items g c =
    let a = c.args in
    let other : eqb a.last 0x63 ≡ false = grind (arith, nat_tests, c.if-last-eq99.false) in
    let others : eqb a.last 0x6E ≡ false = grind (arith, nat_tests, c.if-last-eq110.false) in
    sym (ap (λ (l : List ℕ). a.out.now.items ++ l) (silent-sequence (kind_of g.K.Cells.cells g.K.Kind.own) a.marker a.inter a.last a.p a.self.now other others)
    ∙ append-nil a.out.now.items)
