-- The parser holds a held part, and asks for an event.
use Rattle.vt_syntax.proofs.Cutting.{held_part, is_kind}
use Rattle.vt_syntax.proofs.parser.Parser.next.Goals as goal

pub invariant_of-self : goal.invariant_of-self
invariant_of-self c = rw (c.next_event.ensures.held) (held_part _)

pub returns-clause-in_range : goal.returns-clause-in_range
returns-clause-in_range c = is_kind _ c.next_event.result.event c.next_event.new.values c.next_event.ensures.event
