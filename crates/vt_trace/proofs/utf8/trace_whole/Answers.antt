use Rattle.vt_trace.proofs.Beyond.{traces_whole}
use Rattle.vt_trace.proofs.utf8.trace_whole.Goals as goal

pub returns-clause-traced : goal.returns-clause-traced
returns-clause-traced g c =
    let fed = c.feed_beyond.ensures in
    traces_whole g.T.Traceable.dialect (g.T.Traceable.whole c.args.terminal.now c.args.kept.now) _ c.args.tracer.now _ c.args.c c.args.bytes.now
    c.args.reports.now.items _ c.args.out.now.items _ c.requires.whole c.requires.beyond fed.state fed.silent fed.out
    c.push_beyond.ensures.lines c.push_beyond.ensures.tracer
