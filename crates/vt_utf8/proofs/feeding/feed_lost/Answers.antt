use Rattle.vt_utf8.proofs.Firsts.{lost-is}
use Rattle.vt_utf8.proofs.Logged.{room-once, room-each}
use Rattle.vt_utf8.proofs.feeding.feed_lost.Goals as goal

pub take_beyond-requires-clause-lines_room : goal.take_beyond-requires-clause-lines_room
take_beyond-requires-clause-lines_room g c =
    room-once g.L.Log.Keeps g.L.Log.HasRoom g.L.Log.IsFull g.met.L.Log.kept c.args.log.now _ c.requires.lines_room

pub returns-in-Some-clause-takes : goal.returns-in-Some-clause-takes
returns-in-Some-clause-takes g c =
    rw (lost-is c.args.lost c.in-Some.c c.in-Some.is c.requires.lost) c.take_beyond.ensures.takes

pub returns-in-Some-clause-left : goal.returns-in-Some-clause-left
returns-in-Some-clause-left g c =
    let limit = g.S.Sink.most c.args.terminal.now.display.grid.size in
    c.take_beyond.ensures.left limit
    (room-each g.L.Log.Keeps g.L.Log.HasRoom g.L.Log.IsFull g.met.L.Log.kept c.args.log.now limit c.requires.lines_room)

pub returns-in-None-clause-takes : goal.returns-in-None-clause-takes
returns-in-None-clause-takes g c = rw c.in-None.is (c.in_turn.ensures.nothing _ c.soundness.ensures)

pub returns-in-None-clause-left : goal.returns-in-None-clause-left
returns-in-None-clause-left g c =
    room-once g.L.Log.Keeps g.L.Log.HasRoom g.L.Log.IsFull g.met.L.Log.kept c.args.log.now _ c.requires.lines_room
