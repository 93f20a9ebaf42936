use Rattle.std.proofs.Common.{arith, ◌≡◌, ◌+◌, ◌-◌, get_or, ap, ◌∙◌}
use Rattle.std.proofs.lemmas.List.{get_or_read}
use Rattle.vt_screen.specs.Order.{start_of, stored_or}
use Rattle.vt_screen.proofs.Places.{cell_at-grid_of, width-bounds}
use Rattle.vt_screen.proofs.screen.Screen.cell.Goals as goal
use Rattle.vt_screen.specs.Grid.{GridOf}

pub returns : goal.returns
returns g c =
    let rows : c.self.inside.order.size.rows ≡ c.args.self.now.size.rows = ap (λ (d : GridOf g.row.C.Denot). d.size.rows) c.self.view_is in
    let width : c.self.inside.width ≡ c.args.self.now.width = ap (λ (d : GridOf g.row.C.Denot). d.width) c.self.view_is in
    let narrow = width-bounds c.self.inside.order.size c.self.inside.width c.self.invariant.1.shape.size
    c.self.invariant.1.shape.width in
    let bound = c.start.ensures.bound in
    let place : c.start.result + c.args.column - 1 ≡ start_of c.self.inside.order c.args.row + (c.args.column - 1) =
    omega (arith, c.start.ensures.place) in
    let read = get_or_read c.self.inside.cells.items _ _ (omega (arith, c.self.invariant.0)) c.index.ensures g.C.Cells.cells.blank in
    rw (
      ← c.self.view_is,
      cell_at-grid_of g.C.Cells.cells.blank c.self.inside.order.size c.self.inside.width (stored_or g.C.Cells.cells.blank c.self.inside.order c.self.inside.cells.items)
          c.args.row c.args.column (omega arith) (omega arith) (omega arith) (omega arith),
    )
    (read ∙ ap (λ x. get_or c.self.inside.cells.items x g.C.Cells.cells.blank) place)
