use Rattle.std.proofs.Common.{sym, ◌∙◌}
use Rattle.vt_feed.proofs.Texts.{run-plays, run-saw, whole-plays, whole-saw}
use Rattle.vt_feed.proofs.text.feed_some.Goals as goal

pub returns-then-ascii-gt0-clause-plays : goal.returns-then-ascii-gt0-clause-plays
returns-then-ascii-gt0-clause-plays g c =
    run-plays g.M.Machine.machine _ _ _ c.args.piece.now c.feed.result c.front_run-ascii.result (sym c.is_empty.ensures ∙ c.if-not-is_empty.false)
    c.front_run-ascii.ensures.ascii c.feed.ensures.within _ _ _ _ c.feed.ensures.plays

pub returns-then-ascii-gt0-clause-saw : goal.returns-then-ascii-gt0-clause-saw
returns-then-ascii-gt0-clause-saw g c =
    run-saw g.M.Machine.machine _ _ _ c.args.piece.now c.feed.result c.front_run-ascii.result (sym c.is_empty.ensures ∙ c.if-not-is_empty.false)
    c.front_run-ascii.ensures.ascii c.feed.ensures.within g.O.Observer.Saw _ _ c.feed.ensures.saw

pub returns-clause-plays : goal.returns-clause-plays
returns-clause-plays g c =
    whole-plays g.M.Machine.machine _ _ _ _ _ c.args.piece.now _ _ _ (sym c.is_empty.ensures ∙ c.if-not-is_empty.false) c.in-Some.ensures.0
    c.in-Some.ensures.1 c.play_beyond.ensures.state c.play_beyond.ensures.held c.play_beyond.ensures.silent

pub returns-clause-saw : goal.returns-clause-saw
returns-clause-saw g c =
    whole-saw g.M.Machine.machine g.O.Observer.Saw g.met.O.Observer.joined _ _ _ _ _ _ c.args.piece.now _ _ (sym c.is_empty.ensures ∙ c.if-not-is_empty.false)
    c.in-Some.ensures.0 c.in-Some.ensures.1 c.bytes.ensures.saw c.play_beyond.ensures.saw
