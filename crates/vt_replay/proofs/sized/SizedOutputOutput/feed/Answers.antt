use Rattle.std.proofs.Common.{arith}
use Rattle.std.proofs.lemmas.Grind.{common_steps}
use Rattle.vt_replay.proofs.sized.SizedOutputOutput.feed.Goals as goal

pub slice_bounds-feed-end : goal.slice_bounds-feed-end
slice_bounds-feed-end g c = grind (arith, common_steps)

pub overflow_add-self : goal.overflow_add-self
overflow_add-self g c = grind (arith, common_steps)

pub returns-then-not-is_sent-clause-some : goal.returns-then-not-is_sent-clause-some
returns-then-not-is_sent-clause-some g c = grind (arith, common_steps)

pub returns-then-not-is_sent-clause-within : goal.returns-then-not-is_sent-clause-within
returns-then-not-is_sent-clause-within g c = grind (arith, common_steps)

pub returns-then-not-is_sent-clause-written : goal.returns-then-not-is_sent-clause-written
returns-then-not-is_sent-clause-written g c = grind (arith, common_steps)

pub returns-then-not-is_sent-clause-after : goal.returns-then-not-is_sent-clause-after
returns-then-not-is_sent-clause-after g c = grind (arith, common_steps)

pub returns-then-not-is_sent-clause-most : goal.returns-then-not-is_sent-clause-most
returns-then-not-is_sent-clause-most g c = grind (arith, common_steps)

pub returns-then-not-is_sent-clause-counted : goal.returns-then-not-is_sent-clause-counted
returns-then-not-is_sent-clause-counted g c = grind (arith, common_steps)

pub returns-then-not-is_sent-clause-reserve : goal.returns-then-not-is_sent-clause-reserve
returns-then-not-is_sent-clause-reserve g c = grind (arith, common_steps)

pub returns-then-not-is_sent-clause-capacity : goal.returns-then-not-is_sent-clause-capacity
returns-then-not-is_sent-clause-capacity g c = grind (arith, common_steps)

pub returns-else-not-is_sent-clause-some : goal.returns-else-not-is_sent-clause-some
returns-else-not-is_sent-clause-some g c = grind (arith, common_steps)

pub returns-else-not-is_sent-clause-within : goal.returns-else-not-is_sent-clause-within
returns-else-not-is_sent-clause-within g c = grind (arith, common_steps)

pub returns-else-not-is_sent-clause-written : goal.returns-else-not-is_sent-clause-written
returns-else-not-is_sent-clause-written g c = grind (arith, common_steps)

pub returns-else-not-is_sent-clause-after : goal.returns-else-not-is_sent-clause-after
returns-else-not-is_sent-clause-after g c = grind (arith, common_steps)

pub returns-else-not-is_sent-clause-most : goal.returns-else-not-is_sent-clause-most
returns-else-not-is_sent-clause-most g c = grind (arith, common_steps)

pub returns-else-not-is_sent-clause-counted : goal.returns-else-not-is_sent-clause-counted
returns-else-not-is_sent-clause-counted g c = grind (arith, common_steps)

pub returns-else-not-is_sent-clause-reserve : goal.returns-else-not-is_sent-clause-reserve
returns-else-not-is_sent-clause-reserve g c = grind (arith, common_steps)

pub returns-else-not-is_sent-clause-capacity : goal.returns-else-not-is_sent-clause-capacity
returns-else-not-is_sent-clause-capacity g c = grind (arith, common_steps)
