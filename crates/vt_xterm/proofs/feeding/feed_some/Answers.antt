use Rattle.vt_term.proofs.Bytes.{rest-of}
use Rattle.vt_xterm.specs.Play.{whole_of}
use Rattle.vt_xterm.proofs.Fed.{feeds-more}
use Rattle.vt_xterm.proofs.Logged.{keeps-bytes}
use Rattle.vt_xterm.proofs.feeding.feed_some.Goals as goal

pub returns-clause-fed : goal.returns-clause-fed
returns-clause-fed g c =
    let played = c.feed_page-played in
    feeds-more c.one_split.ensures (whole_of c.args.terminal.now c.args.pages.now)
    (whole_of played.new.terminal c.args.pages.now) (whole_of c.feed_event.new.terminal c.feed_event.new.pages)
    c.args.piece.now played.result c.feed_event.result c.args.out.now.items played.new.out.items
    c.feed_event.new.out.items played.ensures.fed (rw (rest-of c.args.piece.now played.result) at c.feed_event.ensures.fed)

pub returns-clause-keeps : goal.returns-clause-keeps
returns-clause-keeps g c =
    let played = c.feed_page-played in
    keeps-bytes g.L.Log.Keeps g.L.Log.HasRoom g.L.Log.IsFull g.met.L.Log.kept c.one_split.ensures (whole_of c.args.terminal.now c.args.pages.now)
    (whole_of played.new.terminal c.args.pages.now) c.args.piece.now played.result c.feed_event.result c.args.log.now
    played.new.log c.feed_event.new.log played.ensures.fed.whole played.ensures.keeps
    (rw (rest-of c.args.piece.now played.result) at c.feed_event.ensures.keeps)
