use Rattle.vt_trace.proofs.Beyond.{traces_byte}
use Rattle.vt_trace.proofs.utf8.trace_byte.Goals as goal

pub returns-clause-traced : goal.returns-clause-traced
returns-clause-traced g c =
    let first = c.play_lost.ensures in
    let second = c.trace_last.ensures in
    traces_byte g.T.Traceable.dialect (g.T.Traceable.whole c.args.terminal.now c.args.kept.now) (g.T.Traceable.whole c.play_lost.new.terminal c.play_lost.new.kept) _
    c.args.tracer.now _ c.args.decoder.now c.args.b c.push-lost.result.0 c.push-lost.result.1 _ c.args.reports.now.items _
    c.args.out.now.items _ c.push-lost.ensures.characters c.push-lost.ensures.lost c.push-lost.ensures.pending
    first.state first.silent second.state (rw first.out at second.reports) second.lines second.tracer
