use Rattle.std.proofs.Common.{◌+◌, ◌-◌, ◌≤◌, length, drop}
use Rattle.vt_recording.specs.Lines.{lines_of}
use Rattle.vt_recording.specs.Steps.{spot_in}
use Rattle.vt_recording.specs.Timeline.{timed, timed_events}
use Rattle.vt_recording.proofs.Fronts.{IsGathered}
use Rattle.vt_recording.proofs.timing.gather_lines.Given as goal

abbrev pub invariant-loop-at : goal.invariant-loop-at
invariant-loop-at l = record {
  within : l.at ≤ length l.timing + 1;
  placed : l.telling.place ≤ length l.session;
  gathered : IsGathered (timed l.session l.stop (lines_of l.timing))
      (timed_events l.is_apart l.session l.stop (spot_in l.telling) l.at (lines_of (drop l.at l.timing)))
      l.telling.gathered.events.items l.telling.gathered.text.items;
}

abbrev pub decreases-loop-at : goal.decreases-loop-at
decreases-loop-at l = (length l.timing + 1) - l.at
