use Rattle.std.proofs.Common.{◌-◌, ◌≤◌, length}
use Rattle.vt_recording.proofs.Pieces.{Framed}
use Rattle.vt_recording.proofs.events.ttyrec_timeline.Given as goal

abbrev pub invariant-loop-at : goal.invariant-loop-at
invariant-loop-at l = record {
  within : l.at ≤ length l.bytes;
  front : Framed l.bytes l.at l.clock l.gathered.events.items l.gathered.text.items;
}

abbrev pub decreases-loop-at : goal.decreases-loop-at
decreases-loop-at l = length l.bytes - l.at
