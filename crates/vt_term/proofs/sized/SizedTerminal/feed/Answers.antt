use Rattle.vt_term.proofs.sized.SizedTerminal.feed.Goals as goal

pub returns-clause-state : goal.returns-clause-state
returns-clause-state c = c.feed_reserved.ensures.state
