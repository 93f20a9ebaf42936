use Rattle.std.proofs.lemmas.Grind.{common_steps}
use Rattle.std.proofs.Common.{◌≡◌, ◌∙◌, ap, arith, take}
use Rattle.std.proofs.lemmas.List.{length-take-le}
use Rattle.vt_trace.specs.declared.tracing.Tracer.{Tracer}
use Rattle.vt_trace.proofs.Beyond.{place_dialect}
use Rattle.vt_xterm.specs.Play.{behind}
use Rattle.vt_xterm_trace.specs.Trace.{xterm_dialect}
use Rattle.vt_replay.proofs.Players.{xterm_kept}
use Rattle.vt_replay.proofs.Tracers.{xterm_trace, xterm_tracer}
use Rattle.vt_replay.proofs.trace_player.XtermPlayerTracePlayer.feed_trace.Goals as goal

pub returns-clause-some : goal.returns-clause-some
returns-clause-some c =
    let o = c.args.self.now in
    let none = c.cuts-2.ensures.none (behind o.terminal o.front) c.args.tracer.now o.front.pending in
    grind (arith, common_steps, none)

pub returns-clause-lines_on : goal.returns-clause-lines_on
returns-clause-lines_on c = λ more.
    let fed = c.trace_xterm_reserved.ensures in
    xterm_trace _ _ _ _ _ _ (take c.trace_xterm_reserved.result c.args.chunk.now) more fed.state fed.pages fed.pending fed.tracer
    c.cuts-2.ensures.lines

pub returns-clause-tracer_on : goal.returns-clause-tracer_on
returns-clause-tracer_on c = λ more.
    let fed = c.trace_xterm_reserved.ensures in
    xterm_tracer _ _ _ _ _ _ (take c.trace_xterm_reserved.result c.args.chunk.now) more fed.state fed.pages fed.pending fed.tracer
    c.cuts-2.ensures.tracer

pub returns-clause-after : goal.returns-clause-after
returns-clause-after c = λ more.
    let fed = c.trace_xterm_reserved in
    xterm_kept _ _ _ _ (take fed.result c.args.chunk.now) more c.cuts.ensures.two c.sized_cuts.ensures.pending
    fed.ensures.state fed.ensures.pages fed.ensures.pending

pub returns-clause-place : goal.returns-clause-place
returns-clause-place c =
    let o = c.args.self.now in
    let fed = c.trace_xterm_reserved.ensures in
    let place = ap (λ (t : Tracer). t.place) fed.tracer
    ∙ place_dialect xterm_dialect (behind o.terminal o.front) c.args.tracer.now o.front.pending (take c.trace_xterm_reserved.result c.args.chunk.now) in
    omega (arith, place, length-take-le c.trace_xterm_reserved.result c.args.chunk.now fed.within)
