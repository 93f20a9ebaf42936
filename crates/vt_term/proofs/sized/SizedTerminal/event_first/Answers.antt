-- The observer stops, or the event is carried out.
use Rattle.std.proofs.Common.{[], refl, take}
use Rattle.vt_syntax.specs.Event.{event_of}
use Rattle.vt_term.proofs.Playing.{takes-front, feeds-nothing, feeds-front, front-events, front-last, happenings-front}
use Rattle.vt_term.proofs.sized.SizedTerminal.event_first.Goals as goal

pub returns-then-not-lets-clause-fed : goal.returns-then-not-lets-clause-fed
returns-then-not-lets-clause-fed g c =
    feeds-nothing g.P.Profile.machine g.P.Profile.screens c.one_split.ensures c.args.self.now c.args.profile.now c.args.out.now.items c.soundness.ensures

pub returns-then-not-lets-clause-saw : goal.returns-then-not-lets-clause-saw
returns-then-not-lets-clause-saw g c =
    g.met.O.Observer.joined.nothing c.args.observer.now

pub returns-clause-fed : goal.returns-clause-fed
returns-clause-fed g c =
    feeds-front g.P.Profile.machine g.P.Profile.screens _ _ _ _ c.args.piece.now c.args.bytes (event_of c.args.kind []) _ _
    c.requires.front c.requires.between c.carry_out.ensures.held c.carry_out.ensures.screens c.carry_out.ensures.items

pub returns-clause-saw : goal.returns-clause-saw
returns-clause-saw g c =
    let s = c.args.self.now in
    let piece = c.args.piece.now in
    let events = front-events s piece c.args.bytes (event_of c.args.kind []) c.requires.between c.requires.front in
    let silent = front-last s piece c.args.bytes (event_of c.args.kind []) c.requires.between c.requires.front in
    rw (happenings-front g.P.Profile.machine g.P.Profile.screens g.met.P.Profile.prints c.one_split.ensures s c.args.profile.now (take c.args.bytes piece) silent) at
    (c.event.ensures s c.soundness.ensures refl events silent)

pub event-requires-clause-takes : goal.event-requires-clause-takes
event-requires-clause-takes g c = takes-front g.O.Observer.Saw g.O.Observer.Takes g.met.O.Observer.joined _ c.args.piece.now _ c.requires.takes
