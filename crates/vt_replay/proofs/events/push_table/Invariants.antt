use Rattle.std.proofs.Common.{◌≡◌, ◌-◌, ◌≤◌, ◌++◌, length, drop}
use Rattle.vt_recording.specs.Gathered.{events_of}
use Rattle.vt_replay.specs.EventTable.{table}
use Rattle.vt_replay.proofs.events.push_table.Given as goal

abbrev pub invariant-loop-i : goal.invariant-loop-i
invariant-loop-i l = record {
  counted : l.place ≤ l.at;
  within : l.at ≤ length l.text;
  ahead : l.out.items ++ table l.listing.timed l.listing.full l.listing.first l.i l.place (events_of (drop l.i l.events) (drop l.at l.text))
      ≡ l.fn.out.items ++ table l.listing.timed l.listing.full l.listing.first 0 0 (events_of l.events l.text);
}

abbrev pub decreases-loop-i : goal.decreases-loop-i
decreases-loop-i l = length l.events - l.i
