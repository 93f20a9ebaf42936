use Rattle.std.proofs.Common.{◌≡◌, arith, List, length, ap, sym, ◌∙◌, subst}
use Rattle.std.proofs.lemmas.List.{with_items_is}
use Rattle.vt_screen.specs.Order.{stored_or}
use Rattle.vt_screen.specs.Grid.{grid_of}
use Rattle.vt_screen.proofs.Places.{grid_of-same}
use Rattle.vt_screen.proofs.SoundGrids.{fill-sound, as_many}
use Rattle.vt_screen.proofs.screen.Screen.fill.Goals as goal
use Rattle.vt_screen.specs.Grid.{GridOf, IsSoundGridOf}

pub returns-clause-grid : goal.returns-clause-grid
returns-clause-grid g c =
    let rows : c.self.inside.order.size.rows ≡ c.args.self.now.size.rows = ap (λ (d : GridOf g.row.C.Denot). d.size.rows) c.self.view_is in
    let high : c.size-end.result.rows ≡ c.self.inside.order.size.rows = ap (λ s. s.rows) c.size-end.ensures.size in
    let whole = with_items_is c.self.inside.cells c.fill_rows.new.cells
    (c.fill_rows.auto.cells ∙ ap length c.deref_mut.ensures.value ∙ sym c.self.inside.cells.ok.0) in
    rw (← c.self.view_is) (ap (λ (x : List g.row.C.Denot). grid_of c.self.inside.order.size c.self.inside.width (stored_or g.C.Cells.cells.blank c.self.inside.order x)) whole
    ∙ grid_of-same c.self.inside.order.size c.self.inside.width _ _ (λ r col r1 r24 col1 colw. c.fill_rows.ensures.inside r col r1 (omega (arith, high, r24))
    col1 colw))

pub returns-clause-sound : goal.returns-clause-sound
returns-clause-sound g c = subst (IsSoundGridOf g.C.Cells.cells.shown) (sym (returns-clause-grid g c)) (fill-sound c.args.self.now c.args.cell
    (subst (IsSoundGridOf g.C.Cells.cells.shown) c.self.view_is c.self.invariant.1) c.is_sound.ensures)

pub invariant_of-self : goal.invariant_of-self
invariant_of-self g c =
    (as_many _ c.self.inside.cells _ c.self.inside.cells.ok.0 c.self.invariant.0, returns-clause-sound g c)
