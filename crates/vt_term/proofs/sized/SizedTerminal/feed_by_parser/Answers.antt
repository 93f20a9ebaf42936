-- The first event, by the parser, if the observer doesn't stop before it.
use Rattle.std.proofs.Common.{◌≡◌, ◌-◌, ◌∙◌, ℕ, [], List, Option, take, length, ap, sym}
use Rattle.vt_syntax.specs.declared.event.EventKind.{EventKind}
use Rattle.vt_syntax.specs.Event.{event_of, event_in}
use Rattle.vt_syntax.specs.Held.{events_from}
use Rattle.vt_term.specs.State.{State}
use Rattle.vt_term.proofs.Bytes.{but-last}
use Rattle.vt_term.proofs.Playing.{takes-front, feeds-nothing, feeds-event, happenings-front, silent-front}
use Rattle.vt_term.proofs.sized.SizedTerminal.feed_by_parser.Goals as goal

pub returns-then-not-lets-clause-fed : goal.returns-then-not-lets-clause-fed
returns-then-not-lets-clause-fed g c =
    rw (c.parser_before-before.ensures c.if-not-lets.ensures.stops, ← c.self.view_is)
    (feeds-nothing g.P.Profile.machine g.P.Profile.screens c.one_split.ensures _ c.args.profile.now c.args.out.now.items (rw (← c.self.view_is) at c.soundness.ensures))

pub returns-clause-fed : goal.returns-clause-fed
returns-clause-fed g c =
    let values = c.next-bytes.new.values in
    let parser = ap (λ (s : State). s.held) c.self.view_is in
    let events = sym c.next-bytes.ensures.event ∙ ap (λ (e : Option EventKind). event_in e values) c.in-Some.is in
    feeds-event g.P.Profile.machine g.P.Profile.screens c.args.self.now c.carry_out.new.terminal c.args.profile.now
    c.carry_out.new.self (take c.next-bytes.result.bytes c.args.piece.now)
    (event_of c.in-Some.kind values) c.args.out.now.items c.carry_out.new.out.items (rw parser at events)
    (c.carry_out.ensures.held ∙ rw parser at c.next-bytes.ensures.held)
    (rw (c.as_slice-3.ensures.value, ap (λ (s : State). s.display) c.self.view_is) at c.carry_out.ensures.screens)
    (rw (c.as_slice-3.ensures.value, ap (λ (s : State). s.display) c.self.view_is) at c.carry_out.ensures.items)

pub returns-clause-saw : goal.returns-clause-saw
returns-clause-saw g c =
    let n = c.next-bytes.result.bytes in
    let s = c.args.self.now in
    let piece = c.args.piece.now in
    let values = c.next-bytes.new.values in
    let parser = ap (λ (s : State). s.held) c.self.view_is in
    let events = sym c.next-bytes.ensures.event ∙ ap (λ (e : Option EventKind). event_in e values) c.in-Some.is in
    let last = rw c.in-Some.is at c.next-bytes.ensures.last in
    let silent : events_from s.held (take (length (take n piece) - 1) (take n piece)) ≡ [] =
    ap (λ (l : List ℕ). events_from s.held l)
    (but-last n piece (c.next-bytes.ensures.some c.requires.some) c.next-bytes.ensures.within) ∙ rw parser at last in
    rw (happenings-front g.P.Profile.machine g.P.Profile.screens g.met.P.Profile.prints c.one_split.ensures s c.args.profile.now
    (take n piece) silent) at
    (c.event.ensures s c.soundness.ensures (sym (ap (λ (s : State). s.display) c.self.view_is))
    (rw c.as_slice-2.ensures.value (rw parser at events)) silent)

pub returns-in_default-clause-saw : goal.returns-in_default-clause-saw
returns-in_default-clause-saw g c =
    let n = c.next-bytes.result.bytes in
    let s = c.args.self.now in
    let bytes = take n c.args.piece.now in
    let parser = ap (λ (s : State). s.held) c.self.view_is in
    let silent = sym c.next-bytes.ensures.event ∙ ap (λ (e : Option EventKind). event_in e c.next-bytes.new.values) c.in_default.is in
    let none : events_from s.held bytes ≡ [] = rw parser at silent in
    rw (happenings-front g.P.Profile.machine g.P.Profile.screens g.met.P.Profile.prints c.one_split.ensures s c.args.profile.now
    bytes (silent-front c.one_split.ensures s.held (length bytes - 1) bytes none)) at (c.part.ensures s c.soundness.ensures none)

pub event-requires-clause-takes : goal.event-requires-clause-takes
event-requires-clause-takes g c = takes-front g.O.Observer.Saw g.O.Observer.Takes g.met.O.Observer.joined _ c.args.piece.now _ c.requires.takes

pub part-requires : goal.part-requires
part-requires g c = takes-front g.O.Observer.Saw g.O.Observer.Takes g.met.O.Observer.joined _ c.args.piece.now _ c.requires.takes
