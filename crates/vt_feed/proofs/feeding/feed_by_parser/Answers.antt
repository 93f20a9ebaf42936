use Rattle.std.proofs.Common.{◌∙◌, Option, ap, sym, take}
use Rattle.vt_syntax.specs.declared.event.EventKind.{EventKind}
use Rattle.vt_syntax.specs.Event.{event_in}
use Rattle.vt_feed.proofs.Fronts.{front-plays, does-told, silent-plays, silent-told, some-taken}
use Rattle.vt_feed.proofs.feeding.feed_by_parser.Goals as goal

pub event-requires : goal.event-requires
event-requires g c = record { room = c.bytes.ensures.room 1 c.if-is_full.ensures.room.1 }

pub returns-in-Some-clause-plays : goal.returns-in-Some-clause-plays
returns-in-Some-clause-plays g c =
    let events = sym c.next-bytes.ensures.event ∙ ap (λ (e : Option EventKind). event_in e c.next-bytes.new.values) c.in-Some.is in
    front-plays c.one_split.ensures g.M.Machine.machine _ _ _ _ c.args.piece.now _ _ _ _ (c.next-bytes.ensures.some c.requires.some)
    c.next-bytes.ensures.within events c.next-bytes.ensures.held
    (rw c.as_slice-in-Some.ensures.value at c.carry_out.ensures.state) (rw c.as_slice-in-Some.ensures.value at c.carry_out.ensures.items)

pub returns-in-Some-clause-saw : goal.returns-in-Some-clause-saw
returns-in-Some-clause-saw g c =
    let events = sym c.next-bytes.ensures.event ∙ ap (λ (e : Option EventKind). event_in e c.next-bytes.new.values) c.in-Some.is in
    does-told c.one_split.ensures g.M.Machine.machine g.O.Observer.Saw g.met.O.Observer.joined _ _ _ _ _ c.args.piece.now _ _
    (c.next-bytes.ensures.some c.requires.some) c.next-bytes.ensures.within (rw c.in-Some.is at c.next-bytes.ensures.last) events
    c.bytes.ensures.saw (rw c.as_slice.ensures.value at c.event.ensures.saw)

pub returns-in_default-clause-plays : goal.returns-in_default-clause-plays
returns-in_default-clause-plays g c =
    let none = sym c.next-bytes.ensures.event ∙ ap (λ (e : Option EventKind). event_in e c.next-bytes.new.values) c.in_default.is in
    silent-plays c.one_split.ensures g.M.Machine.machine _ _ _ (take c.next-bytes.result.bytes c.args.piece.now) _
    (some-taken c.args.piece.now c.next-bytes.result.bytes (c.next-bytes.ensures.some c.requires.some) c.next-bytes.ensures.within) none c.next-bytes.ensures.held

pub returns-in_default-clause-saw : goal.returns-in_default-clause-saw
returns-in_default-clause-saw g c =
    let none = sym c.next-bytes.ensures.event ∙ ap (λ (e : Option EventKind). event_in e c.next-bytes.new.values) c.in_default.is in
    silent-told c.one_split.ensures g.M.Machine.machine g.O.Observer.Saw _ _ _ _ (take c.next-bytes.result.bytes c.args.piece.now) none c.bytes.ensures.saw
