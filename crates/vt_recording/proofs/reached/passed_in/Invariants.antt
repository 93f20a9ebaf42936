use Rattle.std.proofs.Common.{◌≡◌, ◌-◌, ◌≤◌, length, drop}
use Rattle.vt_recording.specs.Gathered.{events_of}
use Rattle.vt_recording.specs.Reached.{passed, nothing_passed}
use Rattle.vt_recording.proofs.reached.passed_in.Given as goal

abbrev pub invariant-loop-i : goal.invariant-loop-i
invariant-loop-i l = record {
  within : l.at ≤ length l.text;
  few : l.i ≤ length l.events;
  events : l.so_far.events ≡ l.i;
  markers : l.so_far.markers ≤ l.so_far.events;
  content : l.so_far.content ≤ l.at;
  ahead : passed l.until l.characters l.moment l.so_far (events_of (drop l.i l.events) (drop l.at l.text))
      ≡ passed l.until l.characters l.moment nothing_passed (events_of l.events l.text);
}

abbrev pub decreases-loop-i : goal.decreases-loop-i
decreases-loop-i l = length l.events - l.i
