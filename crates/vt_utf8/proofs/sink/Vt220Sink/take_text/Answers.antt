use Rattle.vt_utf8.proofs.TakenAs.{takes-text}
use Rattle.vt_utf8.proofs.sink.Vt220Sink.take_text.Goals as goal

pub returns-clause-takes : goal.returns-clause-takes
returns-clause-takes g c = λ log out.
    let s = c.args.terminal.now in
    takes-text g.L.Log.Keeps g.L.Log.HasRoom g.L.Log.IsFull g.met.L.Log.kept c.sized_cuts.ensures.none
    c.sized_cuts.ensures.scrolled_none s c.write_text.new.terminal _ log out _ (c.sized_text.ensures.plays s.display.grid.size)
    (c.sized_text.ensures.off s.display.grid.size) c.soundness.ensures c.write_text.ensures.text

pub returns-clause-left : goal.returns-clause-left
returns-clause-left g c = c.write_text.ensures.text.pending
