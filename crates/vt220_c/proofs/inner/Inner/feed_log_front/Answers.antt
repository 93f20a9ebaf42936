use Rattle.std.proofs.Common.{arith}
use Rattle.std.proofs.lemmas.Grind.{common_steps}
use Rattle.vt220_c.proofs.inner.Inner.feed_log_front.Goals as goal

pub overflow_sub-out : goal.overflow_sub-out
overflow_sub-out c = grind (arith, common_steps)

pub slice_bounds-feed_log_counting-end : goal.slice_bounds-feed_log_counting-end
slice_bounds-feed_log_counting-end c = grind (arith, common_steps)

pub overflow_sub-lines : goal.overflow_sub-lines
overflow_sub-lines c = grind (arith, common_steps)

pub invariant_of-self : goal.invariant_of-self
invariant_of-self c = grind (arith, common_steps)

pub returns-clause-some : goal.returns-clause-some
returns-clause-some c = grind (arith, common_steps)

pub returns-clause-within : goal.returns-clause-within
returns-clause-within c = grind (arith, common_steps)

pub returns-clause-state : goal.returns-clause-state
returns-clause-state c = grind (arith, common_steps)

pub returns-clause-written : goal.returns-clause-written
returns-clause-written c = grind (arith, common_steps)

pub returns-clause-out : goal.returns-clause-out
returns-clause-out c = grind (arith, common_steps)

pub returns-clause-fits : goal.returns-clause-fits
returns-clause-fits c = grind (arith, common_steps)

pub returns-clause-lines_written : goal.returns-clause-lines_written
returns-clause-lines_written c = grind (arith, common_steps)

pub returns-clause-lines : goal.returns-clause-lines
returns-clause-lines c = grind (arith, common_steps)

pub returns-clause-lines_fit : goal.returns-clause-lines_fit
returns-clause-lines_fit c = grind (arith, common_steps)

pub returns-clause-few : goal.returns-clause-few
returns-clause-few c = grind (arith, common_steps)

pub returns-clause-bells : goal.returns-clause-bells
returns-clause-bells c = grind (arith, common_steps)

pub returns-clause-few_bells : goal.returns-clause-few_bells
returns-clause-few_bells c = grind (arith, common_steps)

pub returns-clause-capacity : goal.returns-clause-capacity
returns-clause-capacity c = grind (arith, common_steps)
