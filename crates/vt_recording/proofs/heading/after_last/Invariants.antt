use Rattle.std.proofs.Common.{◌≡◌, ◌≤◌, None, length, drop}
use Rattle.vt_recording.specs.Heading.{after_last}
use Rattle.vt_recording.proofs.heading.after_last.Given as goal

abbrev pub invariant-loop-at : goal.invariant-loop-at
invariant-loop-at l = record {
  within : l.at ≤ length l.text;
  later : after_last l.words (drop l.at l.text) ≡ None;
}

abbrev pub decreases-loop-at : goal.decreases-loop-at
decreases-loop-at l = l.at
