use Rattle.std.proofs.Common.{◌≡◌, ℕ, List, ap, arith, length, subst, sym}
use Rattle.vt_screen.specs.declared.size.Size.{Size}
use Rattle.vt_utf8.proofs.Fed.{feeds-cut}
use Rattle.vt_utf8.proofs.Logged.{room-once, room-each}
use Rattle.vt_utf8.proofs.feeding.feed_cut.Goals as goal

pub take_beyond-requires-clause-lines_room : goal.take_beyond-requires-clause-lines_room
take_beyond-requires-clause-lines_room g c =
    room-once g.L.Log.Keeps g.L.Log.HasRoom g.L.Log.IsFull g.met.L.Log.kept c.args.log.now _ c.requires.lines_room

pub take_some-requires-clause-lines_room : goal.take_some-requires-clause-lines_room
take_some-requires-clause-lines_room g c =
    let was = c.args.terminal.now.display.grid.size in
    subst (λ (size : Size). g.L.Log.HasRoom c.take_beyond.new.log (g.S.Sink.most size))
    (sym (c.in_turn.ensures.size _ _ _ c.take_beyond.ensures.takes))
    (c.take_beyond.ensures.left (g.S.Sink.most was)
    (room-each g.L.Log.Keeps g.L.Log.HasRoom g.L.Log.IsFull g.met.L.Log.kept c.args.log.now (g.S.Sink.most was) c.requires.lines_room))

pub take_some-requires-clause-one_size : goal.take_some-requires-clause-one_size
take_some-requires-clause-one_size g c = c.in_turn.ensures.one_size _ _ _ c.take_beyond.ensures.takes c.requires.one_size

pub take_some-requires-clause-room : goal.take_some-requires-clause-room
take_some-requires-clause-room g c =
    let same : length c.take_beyond.new.out.items ≡ length c.args.out.now.items =
    ap (λ (xs : List ℕ). length xs) c.take_beyond.ensures.out in
    omega (arith, same, c.take_beyond.new.out.ok, c.args.out.now.ok, c.take_beyond.ensures.capacity, c.requires.room)

pub returns-clause-fed : goal.returns-clause-fed
returns-clause-fed g c = λ pending cut.
    feeds-cut g.S.Sink.Takes g.S.Sink.OneSize c.in_turn.ensures _ _ _ pending c.args.run.now c.take_some.result c.soundness.ensures
    c.take_some.ensures.some c.take_some.ensures.within cut c.requires.ascii c.take_beyond.ensures.takes c.take_some.ensures.takes

pub returns-clause-grows : goal.returns-clause-grows
returns-clause-grows g c =
    let same : length c.take_beyond.new.out.items ≡ length c.args.out.now.items =
    ap (λ (xs : List ℕ). length xs) c.take_beyond.ensures.out in
    record {
      bounded = omega (arith, same, c.take_beyond.new.out.ok, c.args.out.now.ok, c.take_some.ensures.grows.bounded);
      capacity = omega arith;
    }
