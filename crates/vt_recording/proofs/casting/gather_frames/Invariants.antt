use Rattle.std.proofs.Common.{◌-◌, length, drop}
use Rattle.json.specs.Value.{items_view}
use Rattle.vt_recording.specs.Timeline.{frame_events}
use Rattle.vt_recording.proofs.Fronts.{IsGathered}
use Rattle.vt_recording.proofs.casting.gather_frames.Given as goal

abbrev pub invariant-loop-i : goal.invariant-loop-i
invariant-loop-i l = record {
  gathered : IsGathered (frame_events 0 (items_view l.frames)) (frame_events l.clock (items_view (drop l.i l.frames)))
      l.gathered.events.items l.gathered.text.items;
}

abbrev pub decreases-loop-i : goal.decreases-loop-i
decreases-loop-i l = length l.frames - l.i
