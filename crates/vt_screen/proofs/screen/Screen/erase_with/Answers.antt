use Rattle.std.proofs.Common.{arith, ◌≡◌, ◌+◌, ◌-◌, length, ap, ◌∙◌, sym, subst}
use Rattle.vt_screen.specs.Sizes.{room}
use Rattle.vt_screen.specs.Grid.{columns_of}
use Rattle.vt_screen.proofs.Places.{width-bounds}
use Rattle.vt_screen.proofs.Maps.{edited, erase-row}
use Rattle.vt_screen.proofs.SoundGrids.{changed-sound, erased-keeps, as_many}
use Rattle.vt_screen.proofs.screen.Screen.erase_with.Goals as goal
use Rattle.vt_screen.specs.Grid.{GridOf, IsSoundGridOf, changed_any, columns_of}
use Rattle.vt_screen.specs.Kinds.{erased_any}

pub returns-clause-grid : goal.returns-clause-grid
returns-clause-grid g c =
    let rows : c.self.inside.order.size.rows ≡ c.args.self.now.size.rows = ap (λ (d : GridOf g.row.C.Denot). d.size.rows) c.self.view_is in
    let width : c.self.inside.width ≡ c.args.self.now.width = ap (λ (d : GridOf g.row.C.Denot). d.width) c.self.view_is in
    let narrow = width-bounds c.self.inside.order.size c.self.inside.width c.self.invariant.1.shape.size
    c.self.invariant.1.shape.width in
    let bound = c.start-start.ensures.bound in
    let same = c.deref_mut.ensures.value in
    let long : length c.deref_mut.result.now ≡ room c.self.inside.order.size = ap length same ∙ c.self.invariant.0 in
    let at = c.start-start.result + c.args.from - 1 in
    let k = c.start-start.result + c.args.to - (c.start-start.result + c.args.from - 1) in
    rw (← c.self.view_is) (edited g.C.Cells.cells.blank c.self.inside.cells c.self.inside.order c.self.inside.width c.deref_mut.result.now at
    k c.erase_cells.new.cells (λ d. changed_any g.C.Cells.cells.blank (erased_any g.C.Cells.cells c.args.selective c.args.empty) d (columns_of c.args.row c.args.from c.args.to)) same
    c.erase_cells.auto.cells
    (erase-row g.C.Cells.cells.blank c.self.inside.order c.deref_mut.result.now c.erase_cells.new.cells c.self.inside.width c.args.row
    c.args.from c.args.to at k (erased_any g.C.Cells.cells c.args.selective c.args.empty) c.start-start.ensures.order long (omega arith) (omega arith)
    (omega arith) (omega arith) (omega arith) (omega arith) (omega arith) (omega arith) c.erase_cells.auto.cells
    c.erase_cells.ensures))

pub returns-clause-sound : goal.returns-clause-sound
returns-clause-sound g c = subst (IsSoundGridOf g.C.Cells.cells.shown) (sym (returns-clause-grid g c))
    (changed-sound g.C.Cells.cells.blank c.args.self.now (erased_any g.C.Cells.cells c.args.selective c.args.empty) (columns_of c.args.row c.args.from c.args.to) g.met.C.Cells.blank_shown
    (erased-keeps g.C.Cells.cells c.args.selective c.args.empty c.is_sound.ensures g.met.C.Cells.erased_shown)
    (subst (IsSoundGridOf g.C.Cells.cells.shown) c.self.view_is c.self.invariant.1))

pub invariant_of-self : goal.invariant_of-self
invariant_of-self g c =
    (as_many _ c.self.inside.cells _ c.self.inside.cells.ok.0 c.self.invariant.0, returns-clause-sound g c)
