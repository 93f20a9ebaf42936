use Rattle.std.proofs.Common.{arith, ◌≡◌, ◌+◌, ◌-◌, length, ap, ◌∙◌, sym, subst}
use Rattle.vt_screen.specs.Sizes.{room}
use Rattle.vt_screen.proofs.Places.{width-bounds}
use Rattle.vt_screen.proofs.Maps.{edited, put_inserting-row}
use Rattle.vt_screen.proofs.SoundGrids.{put_inserting-sound, as_many}
use Rattle.vt_screen.proofs.screen.Screen.put_inserting.Goals as goal
use Rattle.vt_screen.specs.Grid.{GridOf, IsSoundGridOf, put_inserting_any}

pub returns-clause-grid : goal.returns-clause-grid
returns-clause-grid g c =
    let rows : c.self.inside.order.size.rows ≡ c.args.self.now.size.rows = ap (λ (d : GridOf g.row.C.Denot). d.size.rows) c.self.view_is in
    let width : c.self.inside.width ≡ c.args.self.now.width = ap (λ (d : GridOf g.row.C.Denot). d.width) c.self.view_is in
    let narrow = width-bounds c.self.inside.order.size c.self.inside.width c.self.invariant.1.shape.size
    c.self.invariant.1.shape.width in
    let bound = c.start-start.ensures.bound in
    let same = c.deref_mut.ensures.value in
    let long : length c.deref_mut.result.now ≡ room c.self.inside.order.size = ap length same ∙ c.self.invariant.0 in
    let at = c.start-start.result in
    let k = c.start-start.result + c.self.inside.width - c.start-start.result in
    rw (← c.self.view_is) (edited g.C.Cells.cells.blank c.self.inside.cells c.self.inside.order c.self.inside.width c.deref_mut.result.now at
    k c.insert_cell.new.line (λ d. put_inserting_any g.C.Cells.cells.blank d c.args.row c.args.column c.args.cell) same
    c.insert_cell.auto.line
    (put_inserting-row g.C.Cells.cells.blank c.self.inside.order c.deref_mut.result.now c.insert_cell.new.line c.self.inside.width c.args.row
    c.args.column at k c.args.cell c.start-start.ensures.order long (omega arith) (omega arith) (omega arith)
    (omega arith) (omega arith) c.start-start.ensures.place (omega arith) c.insert_cell.auto.line
    c.insert_cell.ensures.here c.insert_cell.ensures.moved c.insert_cell.ensures.front))

pub returns-clause-sound : goal.returns-clause-sound
returns-clause-sound g c = subst (IsSoundGridOf g.C.Cells.cells.shown) (sym (returns-clause-grid g c))
    (put_inserting-sound g.C.Cells.cells.blank c.args.self.now c.args.row c.args.column c.args.cell g.met.C.Cells.blank_shown
    (subst (IsSoundGridOf g.C.Cells.cells.shown) c.self.view_is c.self.invariant.1) c.is_sound.ensures)

pub invariant_of-self : goal.invariant_of-self
invariant_of-self g c =
    (as_many _ c.self.inside.cells _ c.self.inside.cells.ok.0 c.self.invariant.0, returns-clause-sound g c)
