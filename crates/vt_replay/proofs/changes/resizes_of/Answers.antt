use Rattle.vt_replay.proofs.Recorded.{none_left}
use Rattle.vt_replay.proofs.changes.resizes_of.Goals as goal

pub returns-clause-resizes : goal.returns-clause-resizes
returns-clause-resizes c = none_left _ _ _ _ _ _ c.loop-i-test.false c.loop-i.invariant.ahead
