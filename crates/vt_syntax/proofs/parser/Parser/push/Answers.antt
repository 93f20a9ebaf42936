-- The parser holds a held part, and asks for an event.
use Rattle.std.proofs.Common.{sym, ◌∙◌}
use Rattle.vt_syntax.proofs.Cutting.{read_step, held_part, is_event}
use Rattle.vt_syntax.proofs.Steps.{same_held, same_events}
use Rattle.vt_syntax.proofs.parser.Parser.push.Goals as goal

pub invariant_of-self : goal.invariant_of-self
invariant_of-self c =
    rw (c.step_with_values.ensures.holds, ← same_held (read_step c.self.inside.held c.args.b c.self.invariant))
    (held_part _)

pub returns-clause-in_range : goal.returns-clause-in_range
returns-clause-in_range c =
    is_event _ c.step_with_values.result
    (c.step_with_values.ensures.tells ∙ sym (same_events (read_step c.self.inside.held c.args.b c.self.invariant)))
