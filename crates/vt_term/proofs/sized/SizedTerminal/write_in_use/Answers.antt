use Rattle.std.proofs.Common.{◌∙◌, ap}
use Rattle.vt_term.specs.State.{State}
use Rattle.vt_term.proofs.sized.SizedTerminal.write_in_use.Goals as goal

pub write_graphics-requires-clause-writes : goal.write_graphics-requires-clause-writes
write_graphics-requires-clause-writes c =
    let none = ap (λ (s : State). s.display.sets.pending) c.self.view_is ∙ c.requires.writes.0 in
    record {
      glyph = λ b has. c.in_use.ensures.glyph c.self.inside.display.sets b none has;
      sets = λ b has. c.in_use.ensures.after c.self.inside.display.sets b none has;
      replaces = ap (λ (s : State). s.display.modes.irm) c.self.view_is ∙ c.requires.writes.1;
    }
