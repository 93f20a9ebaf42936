-- The rest of the bytes adds to what is there, and both are what all of them give.
use Rattle.std.proofs.Common.{◌≡◌, ◌+◌, ◌-◌, ◌*◌, ◌≤◌, drop, length, vec_len, vec_capacity}
use Rattle.vt_trace.proofs.Contents.{Gives}
use Rattle.vt_trace.proofs.skipped.skip_all.Given as goal

abbrev pub invariant-loop-at : goal.invariant-loop-at
invariant-loop-at l = record {
  within : l.at ≤ length l.bytes;
  gives : Gives l.initial.parser l.parser l.initial.tracer l.tracer l.bytes (drop l.at l.bytes) l.initial.out.items l.out.items;
  place : l.tracer.place ≡ l.initial.tracer.place + l.at;
  bounded : vec_len l.out ≤ vec_len l.initial.out + 180 * l.at;
  capacity : vec_capacity l.initial.out ≤ vec_capacity l.out;
}

abbrev pub decreases-loop-at : goal.decreases-loop-at
decreases-loop-at l = length l.bytes - l.at
