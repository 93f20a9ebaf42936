use Rattle.std.proofs.Common.{arith, ◌≡◌, ◌+◌, ◌-◌, length, get_or, ap, subst, ◌∙◌}
use Rattle.vt_screen.specs.Order.{start_of, stored_or}
use Rattle.vt_screen.specs.Sizes.{room}
use Rattle.vt_screen.proofs.Lists.{get_or-mid_of, length-mid_of}
use Rattle.vt_screen.proofs.Places.{row_of-same, width-bounds}
use Rattle.vt_screen.proofs.screen.Screen.row.Goals as goal
use Rattle.vt_screen.specs.Grid.{GridOf, IsSoundGridOf}

pub returns-clause-sound : goal.returns-clause-sound
returns-clause-sound g c = subst (IsSoundGridOf g.C.Cells.cells.shown) c.self.view_is c.self.invariant.1

pub returns-clause-grid : goal.returns-clause-grid
returns-clause-grid g c = (returns-clause-sound g c).shape

pub returns-clause-cells : goal.returns-clause-cells
returns-clause-cells g c =
    let rows : c.self.inside.order.size.rows ≡ c.args.self.now.size.rows = ap (λ (d : GridOf g.row.C.Denot). d.size.rows) c.self.view_is in
    let narrow = width-bounds c.self.inside.order.size c.self.inside.width c.self.invariant.1.shape.size
    c.self.invariant.1.shape.width in
    let bound = c.start-start.ensures.bound in
    let same = c.deref.ensures.value in
    let long : length c.deref.result.now ≡ room c.self.inside.order.size = ap length same ∙ c.self.invariant.0 in
    let k : c.start-start.result + c.self.inside.width - c.start-start.result ≡ c.self.inside.width = omega arith in
    let len = length-mid_of c.start-start.result (c.start-start.result + c.self.inside.width - c.start-start.result)
    c.deref.result.now (omega arith) in
    rw (← c.self.view_is) (row_of-same g.C.Cells.cells.blank c.self.inside.order.size c.self.inside.width (stored_or g.C.Cells.cells.blank c.self.inside.order c.self.inside.cells.items)
    c.args.row _ (omega arith) (omega arith) (len ∙ k)
    (λ col col1 colw.
    let place : c.start-start.result + (col - 1) ≡ start_of c.self.inside.order c.args.row + (col - 1) =
    omega (arith, c.start-start.ensures.place) in
    get_or-mid_of c.start-start.result (c.start-start.result + c.self.inside.width - c.start-start.result)
    c.deref.result.now (col - 1) g.C.Cells.cells.blank (omega arith)
    ∙ ap (λ x. get_or c.deref.result.now x g.C.Cells.cells.blank) place
    ∙ ap (λ xs. get_or xs (start_of c.self.inside.order c.args.row + (col - 1)) g.C.Cells.cells.blank) same))
