use Rattle.std.proofs.Common.{arith, ◌≡◌, List, length, ap, sym, ◌∙◌, subst}
use Rattle.std.proofs.lemmas.List.{with_items_is}
use Rattle.vt_screen.specs.Order.{stored_or}
use Rattle.vt_screen.specs.Sizes.{width_of, IsSize}
use Rattle.vt_screen.specs.Grid.{grid_of}
use Rattle.vt_screen.proofs.Places.{grid_of-same}
use Rattle.vt_screen.proofs.SoundGrids.{blank_grid-sound, as_many}
use Rattle.vt_screen.proofs.screen.Screen.set_width.Goals as goal
use Rattle.vt_screen.specs.Grid.{GridOf, IsSoundGridOf, blank_any}

pub returns-clause-grid : goal.returns-clause-grid
returns-clause-grid g c =
    let size : c.self.inside.order.size ≡ c.args.self.now.size = ap (λ (d : GridOf g.row.C.Denot). d.size) c.self.view_is in
    let high : c.size-size.result.rows ≡ c.self.inside.order.size.rows = ap (λ s. s.rows) c.size-size.ensures.size in
    let whole = with_items_is c.self.inside.cells c.fill_rows.new.cells
    (c.fill_rows.auto.cells ∙ ap length c.deref_mut.ensures.value ∙ sym c.self.inside.cells.ok.0) in
    let width : c.columns-self-inside.result ≡ width_of c.self.inside.order.size c.args.wide =
    c.columns-self-inside.ensures ∙ ap (λ s. width_of s c.args.wide) c.size-size.ensures.size in
    ap (λ (x : List g.row.C.Denot). grid_of c.self.inside.order.size c.columns-self-inside.result (stored_or g.C.Cells.cells.blank c.self.inside.order x)) whole
    ∙ grid_of-same c.self.inside.order.size c.columns-self-inside.result _ (λ r col. g.C.Cells.cells.blank)
    (λ r col r1 r24 col1 colw. c.fill_rows.ensures.inside r col r1 (omega (arith, high, r24)) col1 colw ∙ c.empty.ensures)
    ∙ ap (λ w. grid_of c.self.inside.order.size w (λ r col. g.C.Cells.cells.blank)) width
    ∙ ap (λ s. blank_any g.C.Cells.cells.blank s c.args.wide) size

pub returns-clause-sound : goal.returns-clause-sound
returns-clause-sound g c =
    let size : c.self.inside.order.size ≡ c.args.self.now.size = ap (λ (d : GridOf g.row.C.Denot). d.size) c.self.view_is in
    subst (IsSoundGridOf g.C.Cells.cells.shown) (sym (returns-clause-grid g c))
    (blank_grid-sound g.C.Cells.cells.blank c.args.self.now.size c.args.wide g.met.C.Cells.blank_shown (subst IsSize size c.self.invariant.1.shape.size))

pub invariant_of-self : goal.invariant_of-self
invariant_of-self g c =
    (as_many _ c.self.inside.cells _ c.self.inside.cells.ok.0 c.self.invariant.0, returns-clause-sound g c)
