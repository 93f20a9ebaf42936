use Rattle.vt_term.proofs.LineEnds.{feed_end}
use Rattle.vt_term.proofs.laws.scrolls.Goals as goal

pub returns-clause-feed : goal.returns-clause-feed
returns-clause-feed c = λ b s feed at_end. feed_end b s feed at_end
