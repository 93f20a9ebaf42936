use Rattle.std.proofs.Common.{arith}
use Rattle.vt_syntax.proofs.Fronts.{front_events}
use Rattle.vt_syntax.proofs.front.front_event.Goals as goal

pub returns-in-Plain : goal.returns-in-Plain
returns-in-Plain c = grind (arith, front_events)

pub returns-in-Right : goal.returns-in-Right
returns-in-Right c = grind (arith, front_events)

pub returns-in-Empty : goal.returns-in-Empty
returns-in-Empty c = grind (arith, front_events)

pub returns-in-CarriageReturn : goal.returns-in-CarriageReturn
returns-in-CarriageReturn c = grind (arith, front_events)

pub front_sequence-requires-clause-introduced : goal.front_sequence-requires-clause-introduced
front_sequence-requires-clause-introduced c = grind (arith, front_events)
