use Rattle.vt_term.specs.Names.{escape_with_name}
use Rattle.vt_trace.proofs.names.escape.Goals as goal

pub returns-in-40-default : goal.returns-in-40-default
unfolding escape_with_name
returns-in-40-default c = rw c.in-40-default.is-0 (c.scs.ensures 0)

pub returns-in-41-default : goal.returns-in-41-default
unfolding escape_with_name
returns-in-41-default c = rw c.in-41-default.is-0 (c.scs-in-41-default.ensures 1)

pub returns-in-42-default : goal.returns-in-42-default
unfolding escape_with_name
returns-in-42-default c = rw c.in-42-default.is-0 (c.scs-in-42-default.ensures 2)

pub returns-in-43-default : goal.returns-in-43-default
unfolding escape_with_name
returns-in-43-default c = rw c.in-43-default.is-0 (c.scs-in-43-default.ensures 3)
