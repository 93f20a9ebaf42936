use Rattle.std.proofs.Common.{rules, ◌≡◌, ◌≤◌, ◌+◌, ◌++◌, ◌∷◌, [], vec_len, refl, arith}
use Rattle.vt_syntax.specs.Event.{event_of}
use Rattle.vt_syntax.specs.Held.{events_from}
use Rattle.vt_term.specs.Happenings.{happenings}
use Rattle.vt_trace.specs.Observed.{traced_told, tracer_told}
use Rattle.vt_trace.proofs.Happened.{copy-follows, one-event, one-silent}
use Rattle.vt_trace.proofs.observer.trace_byte.Goals as goal

pub returns-in-Some-clause-lines : goal.returns-in-Some-clause-lines
returns-in-Some-clause-lines g c =
    let a = c.args in
    let s = a.terminal.now in
    let next = c.next-event.ensures in
    let read : events_from s.held (a.byte ∷ []) ≡ event_of c.in-Some.kind c.as_slice.result.now ∷ [] =
    rw c.as_slice.ensures.value (one-event s.held _ a.byte _ _ c.parser-parser.ensures (next.some (omega arith)) next.within
    (rw c.in-Some.is at next.event)) in
    let saw = c.event.ensures s c.soundness.ensures refl read
    (one-silent c.one_split.ensures s.held a.byte c.soundness.ensures.held) in
    let lines : c.event.new.self.out.now.items
    ≡ a.out.now.items ++ traced_told g.N.Naming.names a.tracer.now (happenings s (a.byte ∷ [])) =
    (saw.2 (copy-follows s _ (a.byte ∷ []) c.parser.ensures)).lines in
    search (rules, lines, saw.1)

pub returns-in-Some-clause-tracer : goal.returns-in-Some-clause-tracer
returns-in-Some-clause-tracer g c =
    let a = c.args in
    let s = a.terminal.now in
    let next = c.next-event.ensures in
    let read : events_from s.held (a.byte ∷ []) ≡ event_of c.in-Some.kind c.as_slice.result.now ∷ [] =
    rw c.as_slice.ensures.value (one-event s.held _ a.byte _ _ c.parser-parser.ensures (next.some (omega arith)) next.within
    (rw c.in-Some.is at next.event)) in
    let saw = c.event.ensures s c.soundness.ensures refl read
    (one-silent c.one_split.ensures s.held a.byte c.soundness.ensures.held) in
    let tracer : c.event.new.self.tracer.now ≡ tracer_told a.tracer.now (happenings s (a.byte ∷ [])) =
    (saw.2 (copy-follows s _ (a.byte ∷ []) c.parser.ensures)).tracer in
    search (rules, tracer, saw.0)

pub returns-in-Some-clause-bounded : goal.returns-in-Some-clause-bounded
returns-in-Some-clause-bounded g c =
    let a = c.args in
    let s = a.terminal.now in
    let next = c.next-event.ensures in
    let read : events_from s.held (a.byte ∷ []) ≡ event_of c.in-Some.kind c.as_slice.result.now ∷ [] =
    rw c.as_slice.ensures.value (one-event s.held _ a.byte _ _ c.parser-parser.ensures (next.some (omega arith)) next.within
    (rw c.in-Some.is at next.event)) in
    let saw = c.event.ensures s c.soundness.ensures refl read
    (one-silent c.one_split.ensures s.held a.byte c.soundness.ensures.held) in
    let few : vec_len c.event.new.self.out.now ≤ vec_len a.out.now + 420 = omega (arith, saw.3.bounded) in
    search (rules, few, saw.1)

pub returns-in-None-clause-lines : goal.returns-in-None-clause-lines
returns-in-None-clause-lines g c =
    let a = c.args in
    let s = a.terminal.now in
    let next = c.next-event.ensures in
    let read : events_from s.held (a.byte ∷ []) ≡ [] =
    one-event s.held _ a.byte _ [] c.parser-parser.ensures (next.some (omega arith)) next.within (rw c.in-None.is at next.event) in
    let saw = c.part.ensures s c.soundness.ensures read in
    let lines : c.part.new.self.out.now.items
    ≡ a.out.now.items ++ traced_told g.N.Naming.names a.tracer.now (happenings s (a.byte ∷ [])) =
    (saw.2 (copy-follows s _ (a.byte ∷ []) c.parser.ensures)).lines in
    search (rules, lines, saw.1)

pub returns-in-None-clause-tracer : goal.returns-in-None-clause-tracer
returns-in-None-clause-tracer g c =
    let a = c.args in
    let s = a.terminal.now in
    let next = c.next-event.ensures in
    let read : events_from s.held (a.byte ∷ []) ≡ [] =
    one-event s.held _ a.byte _ [] c.parser-parser.ensures (next.some (omega arith)) next.within (rw c.in-None.is at next.event) in
    let saw = c.part.ensures s c.soundness.ensures read in
    let tracer : c.part.new.self.tracer.now ≡ tracer_told a.tracer.now (happenings s (a.byte ∷ [])) =
    (saw.2 (copy-follows s _ (a.byte ∷ []) c.parser.ensures)).tracer in
    search (rules, tracer, saw.0)

pub returns-in-None-clause-bounded : goal.returns-in-None-clause-bounded
returns-in-None-clause-bounded g c =
    let a = c.args in
    let s = a.terminal.now in
    let next = c.next-event.ensures in
    let read : events_from s.held (a.byte ∷ []) ≡ [] =
    one-event s.held _ a.byte _ [] c.parser-parser.ensures (next.some (omega arith)) next.within (rw c.in-None.is at next.event) in
    let saw = c.part.ensures s c.soundness.ensures read in
    let few : vec_len c.part.new.self.out.now ≤ vec_len a.out.now + 420 = omega (arith, saw.3.bounded) in
    search (rules, few, saw.1)
