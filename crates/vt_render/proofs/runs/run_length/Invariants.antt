use Rattle.std.proofs.Common.{◌-◌, ◌≤◌, length}
use Rattle.vt_render.proofs.runs.run_length.Given as goal

abbrev pub invariant-loop-count : goal.invariant-loop-count
invariant-loop-count l = record { some : 1 ≤ l.count; within : l.count ≤ length l.cells }

abbrev pub decreases-loop-count : goal.decreases-loop-count
decreases-loop-count l = length l.cells - l.count
