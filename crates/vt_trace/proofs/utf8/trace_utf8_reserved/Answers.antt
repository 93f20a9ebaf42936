use Rattle.std.proofs.Common.{◌++◌, ◌∙◌, List, ℕ, ap, take}
use Rattle.vt_trace.proofs.Beyond.{utf8_state, utf8_reports}
use Rattle.vt_trace.proofs.utf8.trace_utf8_reserved.Goals as goal

pub returns-clause-state : goal.returns-clause-state
returns-clause-state c =
    let s = c.args.terminal.now in
    let size = s.display.grid.size in
    let cuts = c.sized_cuts.ensures in
    c.trace_dialect.ensures.traced.state
    ∙ utf8_state (cuts.none size) cuts.two (c.sized_soundness.ensures.play size) s c.args.decoder.now
    (take c.trace_dialect.result c.args.chunk.now) c.soundness.ensures

pub returns-clause-reports : goal.returns-clause-reports
returns-clause-reports c =
    let s = c.args.terminal.now in
    let size = s.display.grid.size in
    let cuts = c.sized_cuts.ensures in
    c.trace_dialect.ensures.traced.reports
    ∙ ap (λ (l : List ℕ). c.args.reports.now.items ++ l)
    (utf8_reports (cuts.none size) cuts.two (c.sized_soundness.ensures.play size) s c.args.decoder.now
    (take c.trace_dialect.result c.args.chunk.now) c.soundness.ensures)
