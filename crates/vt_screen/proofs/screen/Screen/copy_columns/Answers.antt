use Rattle.std.proofs.Common.{arith, ◌≡◌, ap, sym, subst}
use Rattle.vt_screen.proofs.Places.{width-bounds}
use Rattle.vt_screen.proofs.Maps.{copied-row}
use Rattle.vt_screen.proofs.SoundGrids.{copied-sound}
use Rattle.vt_screen.proofs.screen.Screen.copy_columns.Goals as goal
use Rattle.vt_screen.specs.Grid.{GridOf, IsSoundGridOf, columns_of}

pub returns-clause-grid : goal.returns-clause-grid
returns-clause-grid g c =
    let rows : c.self.inside.order.size.rows ≡ c.args.self.now.size.rows = ap (λ (d : GridOf g.row.C.Denot). d.size.rows) c.self.view_is in
    let width : c.self.inside.width ≡ c.args.self.now.width = ap (λ (d : GridOf g.row.C.Denot). d.width) c.self.view_is in
    let narrow = width-bounds c.self.inside.order.size c.self.inside.width c.self.invariant.1.shape.size
    c.self.invariant.1.shape.width in
    rw (← c.self.view_is) (copied-row g.C.Cells.cells.blank c.self.inside.order c.self.inside.cells.items c.copy_within.new.self.items c.self.inside.width
    c.args.from c.args.to c.args.left c.args.right _ _ _ c.start-source.ensures.order (omega arith) (omega arith) (omega arith)
    (omega arith) (omega arith) (omega arith) (omega arith) (omega arith) (omega arith) (omega arith) (omega arith)
    c.copy_within.ensures.by_index)

pub returns-clause-sound : goal.returns-clause-sound
returns-clause-sound g c = subst (IsSoundGridOf g.C.Cells.cells.shown) (sym (returns-clause-grid g c))
    (copied-sound g.C.Cells.cells.blank c.args.self.now (columns_of c.args.to c.args.left c.args.right) c.args.from g.met.C.Cells.blank_shown
    (subst (IsSoundGridOf g.C.Cells.cells.shown) c.self.view_is c.self.invariant.1))

pub invariant_of-self : goal.invariant_of-self
invariant_of-self g c = (omega (arith, c.copy_within.ensures.len), returns-clause-sound g c)
