use Rattle.vt_feed.proofs.Fronts.{first-does, first-plays}
use Rattle.vt_feed.proofs.feeding.values_first.Goals as goal

pub event-requires : goal.event-requires
event-requires g c = record { room = c.bytes.ensures.room 1 c.requires.has_room }

pub returns-clause-plays : goal.returns-clause-plays
returns-clause-plays g c =
    first-plays c.one_split.ensures g.M.Machine.machine _ _ _ _ _ _ _ _ c.requires.between c.requires.front
    c.carry_out_values.ensures.state c.carry_out_values.ensures.items

pub returns-clause-saw : goal.returns-clause-saw
returns-clause-saw g c =
    first-does c.one_split.ensures g.M.Machine.machine g.O.Observer.Saw g.met.O.Observer.joined _ _ _ _ _ _ _ _ c.requires.between
    c.requires.front c.bytes.ensures.saw c.event.ensures.saw
