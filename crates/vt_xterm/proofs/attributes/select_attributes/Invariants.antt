-- The remaining parameters have the rest of the effect.
use Rattle.std.proofs.Common.{◌≡◌, ◌-◌, ◌≤◌, length, drop}
use Rattle.vt_xterm.proofs.Colours.{left}
use Rattle.vt_xterm.proofs.attributes.select_attributes.Given as goal

abbrev pub invariant-loop-at : goal.invariant-loop-at
invariant-loop-at l = record {
  within : l.at ≤ length l.params;
  rest : left l.skipped (drop l.at l.params) l.terminal ≡ left 0 l.params l.initial.terminal;
}

abbrev pub decreases-loop-at : goal.decreases-loop-at
decreases-loop-at l = length l.params - l.at
