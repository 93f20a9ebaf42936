use Rattle.std.proofs.Common.{◌<◌}
use Rattle.std.proofs.lemmas.List.Elements.{All-take}
use Rattle.vt_xterm.proofs.TakenAs.{takes-bytes}
use Rattle.vt_xterm.proofs.sink.SizedPagesSink.take_some.Goals as goal

pub returns-clause-takes : goal.returns-clause-takes
returns-clause-takes g c =
    takes-bytes g.L.Log.Keeps c.one_split.ensures c.args.terminal.now c.play_some.new.terminal c.args.self.now c.play_some.new.pages
    _ _ _ _ _ c.soundness.ensures.held (All-take (λ b. b < 0x80) c.play_some.result c.args.run.now c.requires.ascii)
    c.play_some.ensures.fed c.play_some.ensures.keeps c.play_some.ensures.sizes
