use Rattle.std.proofs.Common.{◌<◌, arith, take}
use Rattle.std.proofs.lemmas.List.Elements.{All-take}
use Rattle.vt_term.specs.Text.{row_text_limit}
use Rattle.vt_utf8.specs.Limits.{lines_limit}
use Rattle.vt_utf8.proofs.Cuts.{ascii-all}
use Rattle.vt_utf8.proofs.TakenAs.{takes-as}
use Rattle.vt_utf8.proofs.sink.Vt220Sink.take_some.Goals as goal

pub returns-clause-some : goal.returns-clause-some
returns-clause-some g c =
    let size = c.args.terminal.now.display.grid.size in
    c.feed.ensures.some c.requires.some
    (g.met.L.Log.kept.less c.args.log.now (row_text_limit size) (lines_limit size) (omega arith) c.requires.lines_room)

pub returns-clause-takes : goal.returns-clause-takes
returns-clause-takes g c =
    let bytes = take c.feed.result c.args.run.now in
    takes-as g.L.Log.Keeps c.args.terminal.now c.feed.new.terminal _ bytes bytes _ _ _ _
    (ascii-all c.args.terminal.now bytes (All-take (λ b. b < 0x80) c.feed.result c.args.run.now c.requires.ascii))
    c.feed.ensures.state c.feed.ensures.reports c.feed.ensures.keeps
