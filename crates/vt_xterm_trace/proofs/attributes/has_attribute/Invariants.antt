-- There is one among the values that are left, if there is one.
use Rattle.std.proofs.Common.{◌≡◌, ◌-◌, ◌≤◌, length, drop}
use Rattle.vt_xterm_trace.proofs.Colours.{any_left}
use Rattle.vt_xterm_trace.proofs.attributes.has_attribute.Given as goal

abbrev pub invariant-loop-at : goal.invariant-loop-at
invariant-loop-at l = record {
  within : l.at ≤ length l.values;
  rest : any_left l.skipped (drop l.at l.values) ≡ any_left 0 l.values;
}

abbrev pub decreases-loop-at : goal.decreases-loop-at
decreases-loop-at l = length l.values - l.at
