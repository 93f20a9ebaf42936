use Rattle.std.proofs.Common.{arith, ◌≡◌, ap, sym, subst, ◌∙◌, inl, inr, refl}
use Rattle.std.proofs.lemmas.Bool.Decides.{eqb_tells}
use Rattle.vt_screen.specs.Grid.{GridOf, IsGrid, IsSoundGridOf}
use Rattle.vt_screen.proofs.Places.{rows-same}
use Rattle.vt_screen.proofs.screen.Screen.same.Goals as goal

pub loop-row-preserved : goal.loop-row-preserved
loop-row-preserved g c = λ r r1 low. elim (eqb_tells r c.loop-row.row) [
  | inl e ↦ rw e.1 (sym c.row.ensures.cells ∙ c.same_row.ensures.0 c.if-not-same_row.false
      ∙ c.row-in-loop-row.ensures.cells)
  | inr e ↦ c.loop-row.invariant r r1 (omega (arith, e))
]

pub returns : goal.returns
returns g c =
    let here : IsGrid c.args.self.now = (subst (IsSoundGridOf g.C.Cells.cells.shown) c.self.view_is c.self.invariant.1).shape in
    let there : IsGrid c.args.other.now = (subst (IsSoundGridOf g.C.Cells.cells.shown) c.other.view_is c.other.invariant.1).shape in
    let mine : c.self.inside.order.size ≡ c.args.self.now.size = ap (λ (d : GridOf g.row.C.Denot). d.size) c.self.view_is in
    let its : c.other.inside.order.size ≡ c.args.other.now.size = ap (λ (d : GridOf g.row.C.Denot). d.size) c.other.view_is in
    let size : c.args.self.now.size ≡ c.args.other.now.size =
    sym (c.size-size.ensures.size ∙ mine) ∙ c.same.ensures.0 c.if-not-same.false ∙ c.size.ensures.size ∙ its in
    let high : c.size-size.result.rows ≡ c.args.self.now.size.rows = ap (λ s. s.rows) (c.size-size.ensures.size ∙ mine) in (
      λ _. rows-same g.C.Cells.cells.blank c.args.self.now c.args.other.now here there size (λ r r1 low. c.loop-row.invariant r r1 (omega (arith, high, low, c.loop-row-test.false))),
      λ _. refl,
    )
