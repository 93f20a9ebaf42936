use Rattle.vt_trace.proofs.Traces.{trace-append, tracer-append}
use Rattle.vt_trace.proofs.laws.sized_cuts.Goals as goal

pub returns-clause-lines : goal.returns-clause-lines
returns-clause-lines c =
    λ size. trace-append c.sized_cuts.ensures.two (c.sized_cuts.ensures.none size) (c.sized_soundness.ensures.play size)

pub returns-clause-tracer : goal.returns-clause-tracer
returns-clause-tracer c =
    λ size. tracer-append c.sized_cuts.ensures.two (c.sized_cuts.ensures.none size) (c.sized_soundness.ensures.play size)
