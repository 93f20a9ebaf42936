use Rattle.vt_utf8.proofs.feeding.feed_completed.Goals as goal

pub returns-in-Some-clause-takes : goal.returns-in-Some-clause-takes
returns-in-Some-clause-takes g c = rw c.in-Some.is c.feed_character.ensures.takes

pub returns-in-None-clause-takes : goal.returns-in-None-clause-takes
returns-in-None-clause-takes g c = rw c.in-None.is (c.in_turn.ensures.nothing _ c.soundness.ensures)
