use Rattle.std.proofs.Common.{arith, ◌≡◌, ◌+◌, ◌-◌, List, length, min, get_or, ap, ◌∙◌, sym, subst}
use Rattle.vt_screen.specs.Sizes.{room}
use Rattle.vt_screen.proofs.Places.{width-bounds}
use Rattle.vt_screen.proofs.OtherSize.{front-cell}
use Rattle.vt_screen.proofs.Maps.{edited, row_from-row}
use Rattle.vt_screen.proofs.SoundGrids.{row_from-sound, as_many}
use Rattle.vt_screen.proofs.screen.Screen.copy_row.Goals as goal
use Rattle.vt_screen.specs.Grid.{GridOf, IsSoundGridOf, row_from_any}

pub returns-clause-grid : goal.returns-clause-grid
returns-clause-grid g c =
    let rows : c.self.inside.order.size.rows ≡ c.args.self.now.size.rows = ap (λ (d : GridOf g.row.C.Denot). d.size.rows) c.self.view_is in
    let its : c.other.inside.width ≡ c.args.other.now.width = ap (λ (d : GridOf g.row.C.Denot). d.width) c.other.view_is in
    let narrow = width-bounds c.self.inside.order.size c.self.inside.width c.self.invariant.1.shape.size
    c.self.invariant.1.shape.width in
    let bound = c.start-start.ensures.bound in
    let same = c.deref_mut.ensures.value in
    let long : length c.deref_mut.result.now ≡ room c.self.inside.order.size = ap length same ∙ c.self.invariant.0 in
    let count : c.min-count.result ≡ min c.self.inside.width c.args.other.now.width = omega (arith, c.min-count.ensures) in
    let at = c.start-start.result in
    let k = c.start-start.result + c.min-count.result - c.start-start.result in
    rw (← c.self.view_is) (edited g.C.Cells.cells.blank c.self.inside.cells c.self.inside.order c.self.inside.width c.deref_mut.result.now at
    k c.copy_from_slice.new.self (λ d. row_from_any g.C.Cells.cells.blank d c.args.row c.args.other.now c.args.from) same
    c.copy_from_slice.ensures.len
    (row_from-row g.C.Cells.cells.blank c.self.inside.order c.deref_mut.result.now c.copy_from_slice.new.self c.self.inside.width c.args.row
    c.args.from at k c.args.other.now c.start-start.ensures.order long (omega arith) (omega arith)
    (omega arith) (omega arith) (omega arith) c.copy_from_slice.ensures.len
    (λ i low. ap (λ (xs : List g.row.C.Denot). get_or xs i g.C.Cells.cells.blank) c.copy_from_slice.ensures.after
    ∙ front-cell g.C.Cells.cells.blank c.args.other.now c.args.from c.min-count.result i c.row.result.now c.row.ensures.cells (omega arith)
    (omega arith))))

pub returns-clause-sound : goal.returns-clause-sound
returns-clause-sound g c = subst (IsSoundGridOf g.C.Cells.cells.shown) (sym (returns-clause-grid g c))
    (row_from-sound g.C.Cells.cells.blank c.args.self.now c.args.row c.args.other.now c.args.from g.met.C.Cells.blank_shown (subst (IsSoundGridOf g.C.Cells.cells.shown) c.self.view_is c.self.invariant.1)
    c.row.ensures.sound)

pub invariant_of-self : goal.invariant_of-self
invariant_of-self g c =
    (as_many _ c.self.inside.cells _ c.self.inside.cells.ok.0 c.self.invariant.0, returns-clause-sound g c)
