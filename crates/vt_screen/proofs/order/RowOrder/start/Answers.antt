use Rattle.std.proofs.Common.{arith, ◌≡◌, ◌-◌, get_or, ap, sym, subst, ◌∙◌}
use Rattle.std.proofs.lemmas.List.{get_or-take}
use Rattle.vt_screen.specs.Order.{Order, IsOrder}
use Rattle.vt_screen.proofs.Orders.{start-below}
use Rattle.vt_screen.proofs.order.RowOrder.start.Goals as goal

pub returns-clause-place : goal.returns-clause-place
returns-clause-place c =
    let rows : c.self.inside.size.rows ≡ c.args.self.now.size.rows = ap (λ (o : Order). o.size.rows) c.self.view_is in
    sym (get_or-take c.self.inside.size.rows c.self.inside.rows (c.args.row - 1) 0 (omega (arith, rows)))
    ∙ ap (λ (o : Order). get_or o.rows (c.args.row - 1) 0) c.self.view_is

pub offset_bounds-self-inside-row : goal.offset_bounds-self-inside-row
offset_bounds-self-inside-row c =
    let rows : c.self.inside.size.rows ≡ c.args.self.now.size.rows = ap (λ (o : Order). o.size.rows) c.self.view_is in
    omega (arith, rows, c.self.invariant.size.rows)

pub returns-clause-bound : goal.returns-clause-bound
returns-clause-bound c = omega (
  arith,
  returns-clause-place c,
  start-below c.args.self.now (subst IsOrder c.self.view_is c.self.invariant) c.args.row c.requires.0 c.requires.1,
)
