use Rattle.std.proofs.Common.{◌≡◌, ◌-◌, length, drop}
use Rattle.vt_recording.specs.Detection.{has_version}
use Rattle.vt_recording.proofs.detection.has_version.Given as goal

abbrev pub invariant-loop-at : goal.invariant-loop-at
invariant-loop-at l = record {
  rest : has_version (drop l.at l.text) ≡ has_version l.text;
}

abbrev pub decreases-loop-at : goal.decreases-loop-at
decreases-loop-at l = length l.text - l.at
