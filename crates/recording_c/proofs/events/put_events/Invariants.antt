use Rattle.std.proofs.Common.{◌≡◌, ◌-◌, ◌≤◌, length, take, drop, map}
use Rattle.recording_c.specs.Events.{c_event}
use Rattle.recording_c.proofs.events.put_events.Given as goal

abbrev pub invariant-loop-i : goal.invariant-loop-i
invariant-loop-i l = record {
  within : l.i ≤ length l.from;
  front : take l.i l.into ≡ map c_event (take l.i l.from);
  back : drop l.i l.into ≡ drop l.i l.initial.into;
}

abbrev pub decreases-loop-i : goal.decreases-loop-i
decreases-loop-i l = length l.from - l.i
