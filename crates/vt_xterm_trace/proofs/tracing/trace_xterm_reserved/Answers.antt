use Rattle.std.proofs.Common.{◌∙◌, ap, sym, take}
use Rattle.vt_xterm.specs.Play.{Whole}
use Rattle.vt_xterm_trace.proofs.Played.{front-after, front-reports}
use Rattle.vt_xterm_trace.proofs.tracing.trace_xterm_reserved.Goals as goal

pub returns-clause-other_size : goal.returns-clause-other_size
returns-clause-other_size c =
    c.trace_dialect.ensures.one_size ∙ c.trace_dialect.ensures.size ∙ sym c.requires.one_size

pub returns-clause-state : goal.returns-clause-state
returns-clause-state c =
    ap (λ (w : Whole). w.state) (front-after c.args.terminal.now _ c.args.front.now _
    (take c.trace_dialect.result c.args.chunk.now) c.front.view_is c.trace_dialect.ensures.traced.state)

pub returns-clause-pages : goal.returns-clause-pages
returns-clause-pages c =
    ap (λ (w : Whole). w.pages) (front-after c.args.terminal.now _ c.args.front.now _
    (take c.trace_dialect.result c.args.chunk.now) c.front.view_is c.trace_dialect.ensures.traced.state)

pub returns-clause-reports : goal.returns-clause-reports
returns-clause-reports c =
    front-reports c.args.terminal.now _ c.args.front.now c.args.reports.now.items _ (take c.trace_dialect.result c.args.chunk.now)
    c.front.view_is c.trace_dialect.ensures.traced.reports
