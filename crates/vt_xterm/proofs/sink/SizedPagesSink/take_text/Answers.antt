use Rattle.std.proofs.Common.{[], refl, take}
use Rattle.vt_xterm.proofs.TakenAs.{takes-quietly}
use Rattle.vt_xterm.proofs.TextPlayed.{text-written, text-plays}
use Rattle.vt_xterm.proofs.sink.SizedPagesSink.take_text.Goals as goal

pub returns-clause-takes : goal.returns-clause-takes
returns-clause-takes g c = λ log out.
    let s = c.args.terminal.now in
    let size = s.display.grid.size in
    let text = c.write_text in
    let bytes = take text.result c.args.piece.now in
    takes-quietly g.L.Log.Keeps g.L.Log.HasRoom g.L.Log.IsFull g.met.L.Log.kept s text.new.terminal c.args.self.now _ out log
    (text-written c.spelled.ensures (c.sized_text.ensures.plays size) (c.sized_text.ensures.off size) c.glyph_runs.ensures.leaves
    c.glyph_runs.ensures.two (c.sized_soundness.ensures.play size) c.args.self.now c.if-has_sides.ensures.none s text.new.terminal
    bytes c.soundness.ensures text.ensures.text)
    (text-plays (c.sized_text.ensures.plays size) s text.new.terminal bytes c.soundness.ensures text.ensures.text)

pub returns-clause-left : goal.returns-clause-left
returns-clause-left g c = c.write_text.ensures.text.pending

pub returns-then-has_sides-clause-takes : goal.returns-then-has_sides-clause-takes
returns-then-has_sides-clause-takes g c = λ log out.
    takes-quietly g.L.Log.Keeps g.L.Log.HasRoom g.L.Log.IsFull g.met.L.Log.kept c.args.terminal.now c.args.terminal.now c.args.self.now
    [] out log refl refl
