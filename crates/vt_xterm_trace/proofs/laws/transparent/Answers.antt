use Rattle.vt_xterm_trace.proofs.Same.{trace-same, tracers-same}
use Rattle.vt_xterm_trace.proofs.laws.transparent.Goals as goal

pub returns : goal.returns
returns c = record {
  lines = trace-same c.transparent.ensures.terminals;
  tracer = tracers-same c.transparent.ensures.terminals;
}
