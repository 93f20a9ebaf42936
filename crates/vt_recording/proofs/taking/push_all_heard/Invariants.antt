use Rattle.std.proofs.Common.{◌-◌, ◌≤◌, length, drop}
use Rattle.vt_recording.specs.Gathered.{events_of}
use Rattle.vt_recording.specs.Taken.{all_heard}
use Rattle.vt_recording.proofs.Writing.{IsWritten}
use Rattle.vt_recording.proofs.taking.push_all_heard.Given as goal

abbrev pub invariant-loop-i : goal.invariant-loop-i
invariant-loop-i l = record {
  within : l.at ≤ length l.text;
  bound : l.written.replaced ≤ length l.written.bytes.items;
  written : IsWritten l.characters l.most (all_heard l.characters (events_of l.events l.text))
      (all_heard l.characters (events_of (drop l.i l.events) (drop l.at l.text))) l.written.bytes.items l.written.replaced;
}

abbrev pub decreases-loop-i : goal.decreases-loop-i
decreases-loop-i l = length l.events - l.i
