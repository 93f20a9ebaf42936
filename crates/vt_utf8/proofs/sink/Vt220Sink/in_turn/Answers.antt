use Rattle.vt_utf8.proofs.TakenAs.{in-turn}
use Rattle.vt_utf8.proofs.sink.Vt220Sink.in_turn.Goals as goal

pub returns : goal.returns
returns g c =
    in-turn g.L.Log.Keeps g.L.Log.HasRoom g.L.Log.IsFull g.met.L.Log.kept c.sized_cuts.ensures.none
    c.sized_cuts.ensures.scrolled_none c.sized_cuts.ensures.two c.sized_cuts.ensures.scrolled_two c.sized_soundness.ensures.play
