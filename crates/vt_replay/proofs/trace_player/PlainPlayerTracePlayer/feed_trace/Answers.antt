use Rattle.std.proofs.lemmas.Grind.{common_steps}
use Rattle.std.proofs.Common.{◌≡◌, ◌∙◌, ap, arith, take}
use Rattle.std.proofs.lemmas.List.{length-take-le}
use Rattle.vt_term.specs.Play.{Played}
use Rattle.vt_trace.specs.declared.tracing.Tracer.{Tracer}
use Rattle.vt_replay.proofs.Players.{plain_on}
use Rattle.vt_replay.proofs.Tracers.{place_after, no_trace, plain_trace, plain_tracer}
use Rattle.vt_replay.proofs.trace_player.PlainPlayerTracePlayer.feed_trace.Goals as goal

pub returns-clause-some : goal.returns-clause-some
returns-clause-some c =
    let none = no_trace c.args.self.now.terminal c.args.tracer.now in
    grind (arith, common_steps, none)

pub returns-clause-lines_on : goal.returns-clause-lines_on
returns-clause-lines_on c = λ more.
    let fed = c.trace_reserved.ensures in
    plain_trace _ _ _ _ (take c.trace_reserved.result c.args.chunk.now) more c.soundness.ensures fed.state fed.tracer c.sized_cuts-2.ensures.lines

pub returns-clause-tracer_on : goal.returns-clause-tracer_on
returns-clause-tracer_on c = λ more.
    let fed = c.trace_reserved.ensures in
    plain_tracer _ _ _ _ (take c.trace_reserved.result c.args.chunk.now) more c.soundness.ensures fed.state fed.tracer c.sized_cuts-2.ensures.tracer

pub returns-clause-after : goal.returns-clause-after
returns-clause-after c = λ more.
    ap (λ (p : Played). p.state)
    (plain_on _ _ (take c.trace_reserved.result c.args.chunk.now) more c.sized_cuts.ensures.two c.trace_reserved.ensures.state)

pub returns-clause-place : goal.returns-clause-place
returns-clause-place c =
    let fed = c.trace_reserved.ensures in
    let place = ap (λ (t : Tracer). t.place) fed.tracer
    ∙ place_after c.args.self.now.terminal c.args.tracer.now (take c.trace_reserved.result c.args.chunk.now) in
    omega (arith, place, length-take-le c.trace_reserved.result c.args.chunk.now fed.within)
