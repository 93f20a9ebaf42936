use Rattle.std.proofs.Common.{arith}
use Rattle.std.proofs.lemmas.Grind.{common_steps}
use Rattle.vt220_c.proofs.playing.any_turn.Goals as goal

pub returns-then-logs-clause-some : goal.returns-then-logs-clause-some
returns-then-logs-clause-some g c = grind (arith, common_steps)

pub returns-then-logs-clause-within : goal.returns-then-logs-clause-within
returns-then-logs-clause-within g c = grind (arith, common_steps)

pub returns-then-logs-clause-state : goal.returns-then-logs-clause-state
returns-then-logs-clause-state g c = grind (arith, common_steps)

pub returns-then-logs-clause-kept : goal.returns-then-logs-clause-kept
returns-then-logs-clause-kept g c = grind (arith, common_steps)

pub returns-then-logs-clause-sent : goal.returns-then-logs-clause-sent
returns-then-logs-clause-sent g c = grind (arith, common_steps)

pub returns-then-logs-clause-off : goal.returns-then-logs-clause-off
returns-then-logs-clause-off g c = grind (arith, common_steps)

pub returns-then-logs-clause-fits : goal.returns-then-logs-clause-fits
returns-then-logs-clause-fits g c = grind (arith, common_steps)

pub returns-then-logs-clause-capacity : goal.returns-then-logs-clause-capacity
returns-then-logs-clause-capacity g c = grind (arith, common_steps)

pub returns-else-logs-clause-some : goal.returns-else-logs-clause-some
returns-else-logs-clause-some g c = grind (arith, common_steps)

pub returns-else-logs-clause-within : goal.returns-else-logs-clause-within
returns-else-logs-clause-within g c = grind (arith, common_steps)

pub returns-else-logs-clause-state : goal.returns-else-logs-clause-state
returns-else-logs-clause-state g c = grind (arith, common_steps)

pub returns-else-logs-clause-kept : goal.returns-else-logs-clause-kept
returns-else-logs-clause-kept g c = grind (arith, common_steps)

pub returns-else-logs-clause-sent : goal.returns-else-logs-clause-sent
returns-else-logs-clause-sent g c = grind (arith, common_steps)

pub returns-else-logs-clause-off : goal.returns-else-logs-clause-off
returns-else-logs-clause-off g c = grind (arith, common_steps)

pub returns-else-logs-clause-fits : goal.returns-else-logs-clause-fits
returns-else-logs-clause-fits g c = grind (arith, common_steps)

pub returns-else-logs-clause-capacity : goal.returns-else-logs-clause-capacity
returns-else-logs-clause-capacity g c = grind (arith, common_steps)
