use Rattle.vt_utf8.proofs.Fed.{feeds-ascii}
use Rattle.vt_utf8.proofs.feeding.feed_ascii.Goals as goal

pub returns-clause-fed : goal.returns-clause-fed
returns-clause-fed g c =
    feeds-ascii g.S.Sink.Takes _ _ c.args.decoder.now c.args.run.now c.take_run.result c.requires.nothing c.requires.ascii
    c.take_run.ensures.takes
