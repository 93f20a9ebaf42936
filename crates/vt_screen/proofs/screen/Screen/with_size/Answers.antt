use Rattle.std.proofs.Common.{◌≡◌, ◌∙◌, false, ap, sym, subst, length, replicate}
use Rattle.std.proofs.lemmas.List.{length-replicate}
use Rattle.vt_screen.specs.Grid.{IsSoundGridOf, grid_of}
use Rattle.vt_screen.specs.Sizes.{room}
use Rattle.vt_screen.proofs.Places.{grid_of-same}
use Rattle.vt_screen.proofs.Maps.{stored-replicate}
use Rattle.vt_screen.proofs.SoundGrids.{blank_grid-sound}
use Rattle.vt_screen.proofs.screen.Screen.with_size.Goals as goal

pub returns : goal.returns
returns g c =
    let size : c.new-order.result.size ≡ c.args.size = c.new-order.ensures in
    let items = c.in_ok-filled.ensures ∙ ap (replicate (room c.args.size)) c.empty.ensures in
    grid_of-same c.new-order.result.size c.args.size.narrow _ (λ r col. g.C.Cells.cells.blank)
    (λ r col r1 r24 col1 colw. rw items (stored-replicate g.C.Cells.cells.blank c.new-order.result (room c.args.size) r col))
    ∙ ap (λ s. grid_of s c.args.size.narrow (λ r col. g.C.Cells.cells.blank)) size

pub invariant_of-result : goal.invariant_of-result
invariant_of-result g c = (
  ap length c.in_ok-filled.ensures ∙ length-replicate _ _ ∙ ap room (sym c.new-order.ensures),
  subst (IsSoundGridOf g.C.Cells.cells.shown) (sym (returns g c)) (blank_grid-sound g.C.Cells.cells.blank c.args.size false g.met.C.Cells.blank_shown c.requires),
)
