use Rattle.std.proofs.Common.{◌∙◌, take, ap}
use Rattle.vt_term.specs.State.{State}
use Rattle.vt_term.proofs.SizeKept.{play_kept}
use Rattle.vt_trace.proofs.Beyond.{shorter_ascii, traces_ascii}
use Rattle.vt_trace.proofs.dialects.Vt220TraceableVt220Names.trace_ascii.Goals as goal

pub returns-clause-traced : goal.returns-clause-traced
returns-clause-traced c =
    let s = c.args.terminal.now in
    let size = s.display.grid.size in
    let made = c.trace_front.ensures in
    let bytes = take c.trace_front.result c.args.run.now in
    let all = shorter_ascii c.trace_front.result c.args.run.now c.requires.ascii in
    traces_ascii (c.sized_cuts.ensures.none size) c.sized_cuts.ensures.two (c.sized_soundness.ensures.play size) s _
    c.args.tracer.now _ bytes c.args.reports.now.items _ c.args.out.now.items _ c.soundness.ensures all
    (c.ascii.ensures.played s bytes all) made.state made.reports made.lines made.tracer

pub returns-clause-size : goal.returns-clause-size
returns-clause-size c =
    ap (λ (s : State). s.display.grid.size) c.trace_front.ensures.state
    ∙ play_kept c.args.terminal.now (take c.trace_front.result c.args.run.now)
