use Rattle.vt_xterm.proofs.TakenAs.{in-turn}
use Rattle.vt_xterm.proofs.sink.SizedPagesSink.in_turn.Goals as goal

pub returns : goal.returns
returns g c = in-turn g.L.Log.Keeps g.L.Log.HasRoom g.L.Log.IsFull g.met.L.Log.kept
