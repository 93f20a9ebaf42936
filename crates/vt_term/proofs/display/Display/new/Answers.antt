use Rattle.vt_term.specs.Kinds.{kind_of}
use Rattle.vt_term.proofs.PowerUp.{display_any-sound}
use Rattle.vt_term.proofs.display.Display.new.Goals as goal

pub invariant_of-result : goal.invariant_of-result
invariant_of-result g c =
    rw (
      c.in_ok-with_size.ensures,
      c.at.ensures,
      c.plain.ensures,
      c.power_up.ensures,
      c.full.ensures,
      c.power_up-2.ensures,
      c.power_up-3.ensures,
      c.of_brush.ensures,
      c.brush.ensures,
      c.plain-2.ensures,
    ) (display_any-sound (kind_of g.K.Cells.cells g.K.Kind.own) g.met.K.Cells.blank_shown c.args.size c.requires)
