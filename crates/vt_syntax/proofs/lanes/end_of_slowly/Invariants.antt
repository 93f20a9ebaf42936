-- The bytes passed so far are of the class.
use Rattle.std.proofs.Common.{◌-◌, length}
use Rattle.vt_syntax.proofs.Runs.{HasPassed}
use Rattle.vt_syntax.proofs.lanes.end_of_slowly.Given as goal

abbrev pub invariant-loop-at : goal.invariant-loop-at
invariant-loop-at g l = HasPassed g.C.ByteClass.ends l.piece l.from l.at

abbrev pub decreases-loop-at : goal.decreases-loop-at
decreases-loop-at g l = length l.piece - l.at
