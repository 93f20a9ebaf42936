use Rattle.std.proofs.Common.{arith}
use Rattle.vt_utf8.proofs.TakenAs.{feeds-utf8, keeps-utf8}
use Rattle.vt_utf8.proofs.feeding.feed_front.Goals as goal

pub feed_characters-requires-clause-fits : goal.feed_characters-requires-clause-fits
feed_characters-requires-clause-fits g c = record { one_size = tt; twice = omega (arith, c.utf8_lines_limit-limit.ensures) }

pub returns-clause-fed : goal.returns-clause-fed
returns-clause-fed g c = feeds-utf8 g.L.Log.Keeps _ _ _ _ _ c.feed_characters.ensures.fed

pub returns-clause-keeps : goal.returns-clause-keeps
returns-clause-keeps g c = keeps-utf8 g.L.Log.Keeps _ _ _ _ _ c.feed_characters.ensures.fed
