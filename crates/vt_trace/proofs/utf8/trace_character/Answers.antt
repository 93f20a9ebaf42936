use Rattle.std.proofs.Common.{◌≡◌, arith}
use Rattle.vt_trace.proofs.Beyond.{one_state, one_reports, one_lines, one_tracer}
use Rattle.vt_trace.proofs.utf8.trace_character.Goals as goal

pub returns-then-c-lt128-clause-state : goal.returns-then-c-lt128-clause-state
returns-then-c-lt128-clause-state g c =
    let made = c.trace_ascii in
    let all : made.result ≡ 1 = omega (arith, made.ensures.some, made.ensures.within) in
    one_state g.T.Traceable.dialect _ _ _ _ c.args.c _ _ _ _ c.if-c-lt128.true (rw all at made.ensures.traced)

pub returns-then-c-lt128-clause-reports : goal.returns-then-c-lt128-clause-reports
returns-then-c-lt128-clause-reports g c =
    let made = c.trace_ascii in
    let all : made.result ≡ 1 = omega (arith, made.ensures.some, made.ensures.within) in
    one_reports g.T.Traceable.dialect _ _ _ _ c.args.c _ _ _ _ c.if-c-lt128.true (rw all at made.ensures.traced)

pub returns-then-c-lt128-clause-lines : goal.returns-then-c-lt128-clause-lines
returns-then-c-lt128-clause-lines g c =
    let made = c.trace_ascii in
    let all : made.result ≡ 1 = omega (arith, made.ensures.some, made.ensures.within) in
    one_lines g.T.Traceable.dialect _ _ _ _ c.args.b c.args.c _ _ _ _ c.if-c-lt128.true (rw all at made.ensures.traced)

pub returns-then-c-lt128-clause-tracer : goal.returns-then-c-lt128-clause-tracer
returns-then-c-lt128-clause-tracer g c =
    let made = c.trace_ascii in
    let all : made.result ≡ 1 = omega (arith, made.ensures.some, made.ensures.within) in
    one_tracer g.T.Traceable.dialect _ _ _ _ c.args.b c.args.c _ _ _ _ c.if-c-lt128.true (rw all at made.ensures.traced)
