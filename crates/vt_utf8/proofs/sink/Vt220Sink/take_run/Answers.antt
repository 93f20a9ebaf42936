use Rattle.std.proofs.Common.{◌<◌, arith, take}
use Rattle.std.proofs.lemmas.List.Elements.{All-take}
use Rattle.vt_term.specs.Text.{row_text_limit}
use Rattle.vt_utf8.proofs.Cuts.{ascii-all}
use Rattle.vt_utf8.proofs.TakenAs.{takes-as}
use Rattle.vt_utf8.proofs.sink.Vt220Sink.take_run.Goals as goal

pub returns-clause-all : goal.returns-clause-all
returns-clause-all g c = λ less. g.met.L.Log.kept.fuller c.feed.new.self (row_text_limit c.args.terminal.now.display.grid.size)
    c.args.limit (omega (arith, c.requires.fits.twice)) (c.feed.ensures.all less)

pub returns-clause-takes : goal.returns-clause-takes
returns-clause-takes g c =
    let bytes = take c.feed.result c.args.run.now in
    takes-as g.L.Log.Keeps c.args.terminal.now c.feed.new.terminal _ bytes bytes _ _ _ _
    (ascii-all c.args.terminal.now bytes (All-take (λ b. b < 0x80) c.feed.result c.args.run.now c.requires.ascii))
    c.feed.ensures.state c.feed.ensures.reports c.feed.ensures.keeps
