-- The bytes before the place are played, and their trace is written.
use Rattle.std.proofs.Common.{◌≡◌, ◌+◌, ◌-◌, ◌*◌, ◌≤◌, length, take, vec_len, vec_capacity}
use Rattle.vt_trace.specs.Utf8.{Traces}
use Rattle.vt_trace.proofs.utf8.trace_dialect.Given as goal

abbrev pub invariant-loop-at : goal.invariant-loop-at
invariant-loop-at g l = record {
  within : l.at ≤ length l.chunk;
  one_size : g.T.Traceable.OneSize (g.T.Traceable.whole l.terminal l.kept);
  size : g.T.Traceable.size (g.T.Traceable.whole l.terminal l.kept)
      ≡ g.T.Traceable.size (g.T.Traceable.whole l.initial.terminal l.initial.kept);
  traced : Traces g.T.Traceable.dialect (g.T.Traceable.whole l.initial.terminal l.initial.kept) l.initial.tracer l.initial.decoder
      (take l.at l.chunk) (g.T.Traceable.whole l.terminal l.kept) l.tracer l.decoder l.initial.reports.items l.reports.items l.initial.out.items l.out.items;
  place : l.tracer.place ≡ l.initial.tracer.place + l.at;
  reports_bounded : vec_len l.reports ≤ vec_len l.initial.reports + 10 * l.at;
  bounded : vec_len l.out ≤ vec_len l.initial.out + 420 * l.at;
  reports_capacity : vec_capacity l.initial.reports ≤ vec_capacity l.reports;
  capacity : vec_capacity l.initial.out ≤ vec_capacity l.out;
}

abbrev pub decreases-loop-at : goal.decreases-loop-at
decreases-loop-at g l = length l.chunk - l.at
