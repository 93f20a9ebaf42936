use Rattle.vt_trace.proofs.Beyond.{trace_append, tracer_append}
use Rattle.vt_trace.proofs.laws.sized_utf8_cuts.Goals as goal

pub returns-clause-lines : goal.returns-clause-lines
returns-clause-lines c =
    let cuts = c.sized_cuts.ensures in
    λ size. trace_append (cuts.none size) cuts.two (c.sized_soundness.ensures.play size)

pub returns-clause-tracer : goal.returns-clause-tracer
returns-clause-tracer c =
    let cuts = c.sized_cuts.ensures in
    λ size. tracer_append (cuts.none size) cuts.two (c.sized_soundness.ensures.play size)
