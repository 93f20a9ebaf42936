use Rattle.std.proofs.lemmas.Grind.{common_steps}
use Rattle.std.proofs.Common.{◌≡◌, ◌∙◌, ap, arith, take}
use Rattle.std.proofs.lemmas.List.{length-take-le}
use Rattle.vt_trace.specs.declared.tracing.Tracer.{Tracer}
use Rattle.vt_trace.proofs.Beyond.{place_utf8}
use Rattle.vt_replay.proofs.Players.{utf8_kept}
use Rattle.vt_replay.proofs.Tracers.{no_utf8_trace, utf8_trace, utf8_tracer}
use Rattle.vt_replay.proofs.trace_player.Utf8PlayerTracePlayer.feed_trace.Goals as goal

pub returns-clause-some : goal.returns-clause-some
returns-clause-some c =
    let none = no_utf8_trace c.args.self.now.terminal c.args.tracer.now c.args.self.now.decoder in
    grind (arith, common_steps, none)

pub returns-clause-lines_on : goal.returns-clause-lines_on
returns-clause-lines_on c = λ more.
    let fed = c.trace_utf8_reserved.ensures in
    utf8_trace _ _ _ _ _ _ (take c.trace_utf8_reserved.result c.args.chunk.now) more c.soundness.ensures fed.state fed.pending fed.tracer
    c.sized_utf8_cuts.ensures.lines

pub returns-clause-tracer_on : goal.returns-clause-tracer_on
returns-clause-tracer_on c = λ more.
    let fed = c.trace_utf8_reserved.ensures in
    utf8_tracer _ _ _ _ _ _ (take c.trace_utf8_reserved.result c.args.chunk.now) more c.soundness.ensures fed.state fed.pending fed.tracer
    c.sized_utf8_cuts.ensures.tracer

pub returns-clause-after : goal.returns-clause-after
returns-clause-after c = λ more.
    let fed = c.trace_utf8_reserved in
    utf8_kept _ _ _ _ (take fed.result c.args.chunk.now) more c.sized_cuts.ensures.two c.sized_cuts.ensures.pending
    c.soundness.ensures fed.ensures.state fed.ensures.pending

pub returns-clause-place : goal.returns-clause-place
returns-clause-place c =
    let fed = c.trace_utf8_reserved.ensures in
    let place = ap (λ (t : Tracer). t.place) fed.tracer
    ∙ place_utf8 c.args.self.now.terminal c.args.tracer.now c.args.self.now.decoder (take c.trace_utf8_reserved.result c.args.chunk.now) in
    omega (arith, place, length-take-le c.trace_utf8_reserved.result c.args.chunk.now fed.within)
