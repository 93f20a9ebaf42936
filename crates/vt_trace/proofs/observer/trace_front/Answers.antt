use Rattle.std.proofs.Common.{rules, ◌≡◌, ◌++◌, ◌∙◌, ℕ, List, take, ap}
use Rattle.vt_term.specs.Play.{play}
use Rattle.vt_trace.specs.Trace.{trace, tracer_all}
use Rattle.vt_trace.proofs.Traces.{all_taken}
use Rattle.vt_trace.proofs.Happened.{trace-happened, tracer-happened, copy-follows}
use Rattle.vt_trace.proofs.observer.trace_front.Goals as goal

pub returns-clause-state : goal.returns-clause-state
returns-clause-state c =
    let fed = c.feed_observed.ensures in
    fed.state ∙ ap (λ (l : List ℕ). (play c.args.terminal.now l).state)
    (all_taken c.feed_observed.result c.min-count.result c.args.piece.now fed.within fed.all)

pub returns-clause-reports : goal.returns-clause-reports
returns-clause-reports c =
    let fed = c.feed_observed.ensures in
    fed.reports ∙ ap (λ (l : List ℕ). c.args.reports.now.items ++ (play c.args.terminal.now l).reports)
    (all_taken c.feed_observed.result c.min-count.result c.args.piece.now fed.within fed.all)

pub returns-clause-lines : goal.returns-clause-lines
returns-clause-lines c =
    let fed = c.feed_observed.ensures in
    let a = c.args in
    let bytes = take c.feed_observed.result (take c.min-count.result a.piece.now) in
    let lines : c.feed_observed.new.observer.out.now.items
    ≡ a.out.now.items ++ trace a.terminal.now a.tracer.now (take c.min-count.result a.piece.now) =
    (fed.saw.2 (copy-follows a.terminal.now c.parser.result bytes c.parser.ensures)).lines
    ∙ ap (λ (l : List ℕ). a.out.now.items ++ l) (trace-happened a.terminal.now a.tracer.now bytes)
    ∙ ap (λ (l : List ℕ). a.out.now.items ++ trace a.terminal.now a.tracer.now l)
    (all_taken c.feed_observed.result c.min-count.result a.piece.now fed.within fed.all) in
    search (rules, lines, fed.saw.1)

pub returns-clause-tracer : goal.returns-clause-tracer
returns-clause-tracer c =
    let fed = c.feed_observed.ensures in
    let a = c.args in
    let bytes = take c.feed_observed.result (take c.min-count.result a.piece.now) in
    let tracer : c.feed_observed.new.observer.tracer.now
    ≡ tracer_all a.terminal.now a.tracer.now (take c.min-count.result a.piece.now) =
    (fed.saw.2 (copy-follows a.terminal.now c.parser.result bytes c.parser.ensures)).tracer
    ∙ tracer-happened a.terminal.now a.tracer.now bytes
    ∙ ap (λ (l : List ℕ). tracer_all a.terminal.now a.tracer.now l)
    (all_taken c.feed_observed.result c.min-count.result a.piece.now fed.within fed.all) in
    search (rules, tracer, fed.saw.0)
