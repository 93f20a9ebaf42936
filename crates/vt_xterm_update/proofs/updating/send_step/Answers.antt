use Rattle.vt_xterm_update.proofs.updating.send_step.Goals as goal

pub returns-then-len-end-clause-size : goal.returns-then-len-end-clause-size
returns-then-len-end-clause-size c =
    c.sizes.ensures c.args.shown.now c.feed_reserved.new.self _ _ _ c.one_size.ensures c.feed_reserved.ensures.plays

pub returns-clause-size : goal.returns-clause-size
returns-clause-size c =
    c.sizes.ensures c.args.shown.now c.feed_reserved.new.self _ _ _ c.one_size.ensures c.feed_reserved.ensures.plays
