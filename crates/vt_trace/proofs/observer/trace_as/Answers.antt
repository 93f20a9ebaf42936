use Rattle.std.proofs.Common.{rules, ◌≡◌, ◌≤◌, ◌+◌, ◌*◌, ◌++◌, ◌∙◌, ℕ, List, length, take, vec_len, ap, arith, length-take}
use Rattle.vt_term.specs.Observing.{happenings_of}
use Rattle.vt_trace.specs.Observed.{traced_told, tracer_told}
use Rattle.vt_trace.proofs.Traces.{all_taken}
use Rattle.vt_trace.proofs.Happened.{copy-follows-on, length-on}
use Rattle.vt_trace.proofs.observer.trace_as.Goals as goal

pub returns-clause-fed : goal.returns-clause-fed
returns-clause-fed g c =
    let fed = c.feed_as.ensures in
    rw (all_taken c.feed_as.result c.min-count.result c.args.piece.now fed.within fed.all) at fed.fed

pub returns-clause-lines : goal.returns-clause-lines
returns-clause-lines g c =
    let fed = c.feed_as.ensures in
    let a = c.args in
    let bytes = take c.feed_as.result (take c.min-count.result a.piece.now) in
    let s = g.P.Profile.screens a.terminal.now.display a.profile.now in
    let lines : c.feed_as.new.observer.out.now.items
    ≡ a.out.now.items ++ traced_told g.N.Naming.names a.tracer.now (happenings_of g.P.Profile.machine g.P.Profile.screens a.terminal.now a.profile.now
    (take c.min-count.result a.piece.now)) =
    (fed.saw.2 (copy-follows-on g.P.Profile.machine s a.terminal.now.held c.parser.result bytes c.parser.ensures)).lines
    ∙ ap (λ (l : List ℕ). a.out.now.items ++ traced_told g.N.Naming.names a.tracer.now (happenings_of g.P.Profile.machine g.P.Profile.screens
    a.terminal.now a.profile.now l)) (all_taken c.feed_as.result c.min-count.result a.piece.now fed.within fed.all) in
    search (rules, lines, fed.saw.1)

pub returns-clause-tracer : goal.returns-clause-tracer
returns-clause-tracer g c =
    let fed = c.feed_as.ensures in
    let a = c.args in
    let bytes = take c.feed_as.result (take c.min-count.result a.piece.now) in
    let s = g.P.Profile.screens a.terminal.now.display a.profile.now in
    let tracer : c.feed_as.new.observer.tracer.now
    ≡ tracer_told a.tracer.now (happenings_of g.P.Profile.machine g.P.Profile.screens a.terminal.now a.profile.now
    (take c.min-count.result a.piece.now)) =
    (fed.saw.2 (copy-follows-on g.P.Profile.machine s a.terminal.now.held c.parser.result bytes c.parser.ensures)).tracer
    ∙ ap (λ (l : List ℕ). tracer_told a.tracer.now (happenings_of g.P.Profile.machine g.P.Profile.screens a.terminal.now a.profile.now l))
    (all_taken c.feed_as.result c.min-count.result a.piece.now fed.within fed.all) in
    search (rules, tracer, fed.saw.0)

pub returns-clause-bounded : goal.returns-clause-bounded
returns-clause-bounded g c =
    let fed = c.feed_as.ensures in
    let a = c.args in
    let bytes = take c.feed_as.result (take c.min-count.result a.piece.now) in
    let long = length-on g.P.Profile.machine (g.P.Profile.screens a.terminal.now.display a.profile.now) a.terminal.now.held bytes in
    let first = length-take c.feed_as.result (take c.min-count.result a.piece.now) in
    let second = length-take c.min-count.result a.piece.now in
    let few : vec_len c.feed_as.new.observer.out.now ≤ vec_len a.out.now + 420 * c.min-count.result =
    omega (arith, fed.saw.3.bounded, long, first, second) in
    search (rules, few, fed.saw.1)
