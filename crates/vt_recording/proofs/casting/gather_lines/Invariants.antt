use Rattle.std.proofs.Common.{◌+◌, ◌-◌, ◌≤◌, length, drop}
use Rattle.vt_recording.specs.Lines.{lines_of}
use Rattle.vt_recording.specs.Timeline.{cast_events}
use Rattle.vt_recording.proofs.Fronts.{IsGathered}
use Rattle.vt_recording.proofs.casting.gather_lines.Given as goal

abbrev pub invariant-loop-at : goal.invariant-loop-at
invariant-loop-at l = record {
  within : l.at ≤ length l.bytes + 1;
  gathered : IsGathered (cast_events l.version 0 l.from (lines_of (drop l.from l.bytes)))
      (cast_events l.version l.clock l.at (lines_of (drop l.at l.bytes))) l.gathered.events.items l.gathered.text.items;
}

abbrev pub decreases-loop-at : goal.decreases-loop-at
decreases-loop-at l = (length l.bytes + 1) - l.at
