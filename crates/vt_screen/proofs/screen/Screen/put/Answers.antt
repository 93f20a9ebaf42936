use Rattle.std.proofs.Common.{arith, ◌≡◌, ap, rules, sym, subst}
use Rattle.vt_screen.proofs.Places.{width-bounds}
use Rattle.vt_screen.proofs.Maps.{put-row}
use Rattle.vt_screen.proofs.SoundGrids.{put-sound}
use Rattle.vt_screen.proofs.screen.Screen.put.Goals as goal
use Rattle.vt_screen.specs.Grid.{GridOf, IsSoundGridOf}

pub returns-clause-grid : goal.returns-clause-grid
returns-clause-grid g c =
    let rows : c.self.inside.order.size.rows ≡ c.args.self.now.size.rows = ap (λ (d : GridOf g.row.C.Denot). d.size.rows) c.self.view_is in
    let width : c.self.inside.width ≡ c.args.self.now.width = ap (λ (d : GridOf g.row.C.Denot). d.width) c.self.view_is in
    let narrow = width-bounds c.self.inside.order.size c.self.inside.width c.self.invariant.1.shape.size
    c.self.invariant.1.shape.width in
    rw (← c.self.view_is) (put-row g.C.Cells.cells.blank c.self.inside.order c.self.inside.cells.items c.self.inside.width c.args.row
    c.args.column _ c.args.cell
    c.start-start.ensures.order c.self.invariant.0 (omega arith) (omega arith) (omega arith) (omega arith)
    (omega arith) (omega arith))

pub returns-clause-sound : goal.returns-clause-sound
returns-clause-sound g c = subst (IsSoundGridOf g.C.Cells.cells.shown) (sym (returns-clause-grid g c))
    (put-sound g.C.Cells.cells.blank c.args.self.now c.args.row c.args.column c.args.cell g.met.C.Cells.blank_shown
    (subst (IsSoundGridOf g.C.Cells.cells.shown) c.self.view_is c.self.invariant.1) c.is_sound.ensures)

pub invariant_of-self : goal.invariant_of-self
invariant_of-self g c = (search rules, returns-clause-sound g c)
