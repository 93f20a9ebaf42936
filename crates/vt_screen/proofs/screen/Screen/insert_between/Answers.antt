use Rattle.std.proofs.Common.{arith, ◌≡◌, ◌+◌, ◌-◌, length, min, ap, ◌∙◌, sym, subst}
use Rattle.vt_screen.specs.Sizes.{room}
use Rattle.vt_screen.proofs.Places.{width-bounds}
use Rattle.vt_screen.proofs.Maps.{edited, insert_between-row}
use Rattle.vt_screen.proofs.SoundGrids.{insert_between-sound, as_many}
use Rattle.vt_screen.proofs.screen.Screen.insert_between.Goals as goal
use Rattle.vt_screen.specs.Grid.{GridOf, IsSoundGridOf}
use Rattle.vt_screen.specs.Between.{insert_between_any}

pub returns-clause-grid : goal.returns-clause-grid
returns-clause-grid g c =
    let rows : c.self.inside.order.size.rows ≡ c.args.self.now.size.rows = ap (λ (d : GridOf g.row.C.Denot). d.size.rows) c.self.view_is in
    let width : c.self.inside.width ≡ c.args.self.now.width = ap (λ (d : GridOf g.row.C.Denot). d.width) c.self.view_is in
    let narrow = width-bounds c.self.inside.order.size c.self.inside.width c.self.invariant.1.shape.size
    c.self.invariant.1.shape.width in
    let bound = c.start-start.ensures.bound in
    let same = c.deref_mut.ensures.value in
    let long : length c.deref_mut.result.now ≡ room c.self.inside.order.size = ap length same ∙ c.self.invariant.0 in
    let at = c.start-start.result in
    let k = c.start-start.result + c.args.right - c.start-start.result in
    let count : c.min-count.result ≡ min c.args.n (c.args.right + 1 - c.args.column) =
    omega (arith, c.min-count.ensures) in
    rw (← c.self.view_is) (edited g.C.Cells.cells.blank c.self.inside.cells c.self.inside.order c.self.inside.width c.deref_mut.result.now at
    k c.insert_blanks.new.line (λ d. insert_between_any g.C.Cells.cells.blank c.args.empty d c.args.row c.args.column c.args.right c.args.n) same
    c.insert_blanks.auto.line
    (insert_between-row g.C.Cells.cells.blank c.self.inside.order c.deref_mut.result.now c.insert_blanks.new.line c.args.empty c.self.inside.width
    c.args.row c.args.column c.args.right c.args.n c.min-count.result at k c.start-start.ensures.order long (omega arith)
    (omega arith) (omega arith) (omega arith) (omega arith) (omega arith) count c.start-start.ensures.place (omega arith)
    c.insert_blanks.auto.line c.insert_blanks.ensures.gap c.insert_blanks.ensures.moved
    c.insert_blanks.ensures.front))

pub returns-clause-sound : goal.returns-clause-sound
returns-clause-sound g c = subst (IsSoundGridOf g.C.Cells.cells.shown) (sym (returns-clause-grid g c))
    (insert_between-sound g.C.Cells.cells.blank c.args.self.now c.args.empty c.args.row c.args.column c.args.right c.args.n g.met.C.Cells.blank_shown c.is_sound.ensures
    (subst (IsSoundGridOf g.C.Cells.cells.shown) c.self.view_is c.self.invariant.1))

pub invariant_of-self : goal.invariant_of-self
invariant_of-self g c =
    (as_many _ c.self.inside.cells _ c.self.inside.cells.ok.0 c.self.invariant.0, returns-clause-sound g c)
