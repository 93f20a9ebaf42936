use Rattle.std.proofs.Common.{[]}
use Rattle.vt_trace.proofs.tracing.push_event.Goals as goal

pub returns-in-Print-clause-items : goal.returns-in-Print-clause-items
returns-in-Print-clause-items g c = rw (c.in-Print.is, ← c.size.ensures.size) (c.push_print.ensures.items [])
