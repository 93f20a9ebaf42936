use Rattle.std.proofs.Common.{◌≡◌, ◌∙◌, ap}
use Rattle.vt_screen.specs.Grid.{GridOf}
use Rattle.vt_term.specs.Kinds.{kind_of}
use Rattle.vt_term.proofs.PowerUp.{display_any-sound}
use Rattle.vt_term.proofs.display.Display.reset_to_initial_state.Goals as goal

pub invariant_of-self : goal.invariant_of-self
invariant_of-self g c =
    let same : c.set_width.new.self.size ≡ c.self.inside.screen.size = ap (λ (d : GridOf g.row.K.Denot). d.size) c.set_width.ensures.grid in
    let first : c.size.result ≡ c.self.inside.screen.size = c.size.ensures.size ∙ same in
    let second : c.size-2.result ≡ c.self.inside.screen.size = c.size-2.ensures.size ∙ same in
    rw (
      c.at-self-inside.ensures,
      c.plain-self-inside.ensures,
      c.power_up-self-inside.ensures,
      c.full-self-inside.ensures,
      c.power_up-self-inside-2.ensures,
      c.power_up-self-inside-3.ensures,
      c.of_brush-self-inside.ensures,
      c.brush.ensures,
      c.plain.ensures,
      first,
      second,
      c.set_width.ensures.grid,
    ) (display_any-sound (kind_of g.K.Cells.cells g.K.Kind.own) g.met.K.Cells.blank_shown c.self.inside.screen.size
    c.self.invariant.grid.shape.size)
