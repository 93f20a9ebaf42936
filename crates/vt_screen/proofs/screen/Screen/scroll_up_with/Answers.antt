use Rattle.std.proofs.Common.{arith, ◌≡◌, ◌+◌, ◌-◌, List, length, min, ap, sym, ◌∙◌, subst}
use Rattle.std.proofs.lemmas.List.{with_items_is}
use Rattle.vt_screen.specs.Order.{stored_or}
use Rattle.vt_screen.specs.Sizes.{room}
use Rattle.vt_screen.specs.Grid.{grid_of}
use Rattle.vt_screen.proofs.Maps.{scroll_up-rows}
use Rattle.vt_screen.proofs.SoundGrids.{scroll_up-sound, as_many}
use Rattle.vt_screen.proofs.screen.Screen.scroll_up_with.Goals as goal
use Rattle.vt_screen.specs.Grid.{GridOf, IsSoundGridOf, scroll_up_any}

pub returns-clause-grid : goal.returns-clause-grid
returns-clause-grid g c =
    let rows : c.self.inside.order.size.rows ≡ c.args.self.now.size.rows = ap (λ (d : GridOf g.row.C.Denot). d.size.rows) c.self.view_is in
    let as_high : c.move_up.new.self.size.rows ≡ c.self.inside.order.size.rows = ap (λ s. s.rows) c.move_up.ensures.size in
    let same = c.deref_mut.ensures.value in
    let whole = with_items_is c.self.inside.cells c.fill_rows.new.cells
    (c.fill_rows.auto.cells ∙ ap length same ∙ sym c.self.inside.cells.ok.0) in
    let count : c.min-count.result ≡ min c.args.n (c.args.bottom + 1 - c.args.top) =
    omega (arith, c.min-count.ensures) in
    rw (← c.self.view_is) (ap (λ (x : List g.row.C.Denot). grid_of c.move_up.new.self.size c.self.inside.width (stored_or g.C.Cells.cells.blank c.move_up.new.self x)) whole
    ∙ ap (λ s. grid_of s c.self.inside.width (stored_or g.C.Cells.cells.blank c.move_up.new.self c.fill_rows.new.cells)) c.move_up.ensures.size
    ∙ scroll_up-rows g.C.Cells.cells.blank c.self.inside.order c.move_up.new.self c.deref_mut.result.now c.fill_rows.new.cells c.args.empty
    c.self.inside.width c.args.top c.args.bottom c.args.n c.min-count.result
    (omega arith) (omega arith) (omega arith) count c.move_up.ensures.moved c.move_up.ensures.outside
    (λ r col low high col1 colw. c.fill_rows.ensures.inside r col low high col1 colw)
    (λ r col r1 r24 out col1 colw. c.fill_rows.ensures.outside r col r1 (omega (arith, as_high, r24)) out col1 colw)
    ∙ ap (λ (x : List g.row.C.Denot). scroll_up_any g.C.Cells.cells.blank c.args.empty (grid_of c.self.inside.order.size c.self.inside.width (stored_or g.C.Cells.cells.blank c.self.inside.order x)) c.args.top
    c.args.bottom c.args.n) same)

pub returns-clause-sound : goal.returns-clause-sound
returns-clause-sound g c = subst (IsSoundGridOf g.C.Cells.cells.shown) (sym (returns-clause-grid g c))
    (scroll_up-sound g.C.Cells.cells.blank c.args.self.now c.args.empty c.args.top c.args.bottom c.args.n g.met.C.Cells.blank_shown c.is_sound.ensures
    (subst (IsSoundGridOf g.C.Cells.cells.shown) c.self.view_is c.self.invariant.1))

pub invariant_of-self : goal.invariant_of-self
invariant_of-self g c = (
  as_many _ c.self.inside.cells _ c.self.inside.cells.ok.0
      (c.self.invariant.0 ∙ ap room (sym c.move_up.ensures.size)),
  returns-clause-sound g c,
)
