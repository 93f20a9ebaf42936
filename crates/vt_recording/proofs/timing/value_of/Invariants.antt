use Rattle.std.proofs.Common.{◌≡◌, ◌+◌, ◌-◌, ◌≤◌, length, drop}
use Rattle.vt_recording.specs.Lines.{lines_of}
use Rattle.vt_recording.specs.Timing.{value_of}
use Rattle.vt_recording.proofs.timing.value_of.Given as goal

abbrev pub invariant-loop-at : goal.invariant-loop-at
invariant-loop-at l = record {
  within : l.at ≤ length l.timing + 1;
  ahead : value_of l.name (lines_of l.timing) ≡ value_of l.name (lines_of (drop l.at l.timing));
}

abbrev pub decreases-loop-at : goal.decreases-loop-at
decreases-loop-at l = (length l.timing + 1) - l.at
