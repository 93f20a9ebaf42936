-- The bytes before the place are played, and their trace is written.
use Rattle.std.proofs.Common.{◌≡◌, ◌+◌, ◌-◌, ◌*◌, ◌≤◌, ◌++◌, length, take, vec_len, vec_capacity}
use Rattle.vt_term.specs.Play.{play}
use Rattle.vt_trace.specs.Trace.{trace, tracer_all}
use Rattle.vt_trace.proofs.tracing.trace_reserved.Given as goal

abbrev pub invariant-loop-at : goal.invariant-loop-at
invariant-loop-at l = record {
  within : l.at ≤ length l.chunk;
  state : l.terminal ≡ (play l.initial.terminal (take l.at l.chunk)).state;
  reports : l.reports.items ≡ l.initial.reports.items ++ (play l.initial.terminal (take l.at l.chunk)).reports;
  lines : l.out.items ≡ l.initial.out.items ++ trace l.initial.terminal l.initial.tracer (take l.at l.chunk);
  tracer : l.tracer ≡ tracer_all l.initial.terminal l.initial.tracer (take l.at l.chunk);
  place : l.tracer.place ≡ l.initial.tracer.place + l.at;
  reports_bounded : vec_len l.reports ≤ vec_len l.initial.reports + 10 * l.at;
  bounded : vec_len l.out ≤ vec_len l.initial.out + 420 * l.at;
  reports_capacity : vec_capacity l.initial.reports ≤ vec_capacity l.reports;
  capacity : vec_capacity l.initial.out ≤ vec_capacity l.out;
}

abbrev pub decreases-loop-at : goal.decreases-loop-at
decreases-loop-at l = length l.chunk - l.at
