use Rattle.std.proofs.Common.{ℕ, ◌<◌, subst, sym}
use Rattle.std.proofs.lemmas.List.Elements.{All-take}
use Rattle.vt_xterm.proofs.TakenAs.{takes-bytes}
use Rattle.vt_xterm.proofs.sink.SizedPagesSink.take_run.Goals as goal

pub play-requires-clause-one_size : goal.play-requires-clause-one_size
play-requires-clause-one_size g c = c.requires.fits.one_size

pub play-requires-clause-limit : goal.play-requires-clause-limit
play-requires-clause-limit g c = c.requires.fits.twice

pub returns-clause-all : goal.returns-clause-all
returns-clause-all g c = λ less.
    subst (λ (n : ℕ). g.L.Log.IsFull c.play.new.self n) (sym c.requires.fits.twice) (c.play.ensures.all less)

pub returns-clause-takes : goal.returns-clause-takes
returns-clause-takes g c =
    takes-bytes g.L.Log.Keeps c.one_split.ensures c.args.terminal.now c.play.new.terminal c.args.self.now c.play.new.pages _ _ _ _ _
    c.soundness.ensures.held (All-take (λ b. b < 0x80) c.play.result c.args.run.now c.requires.ascii) c.play.ensures.fed
    c.play.ensures.keeps c.play.ensures.sizes
