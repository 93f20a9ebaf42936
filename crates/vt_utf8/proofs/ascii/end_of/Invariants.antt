-- The bytes passed so far are ASCII.
use Rattle.std.proofs.Common.{◌-◌, length}
use Rattle.vt_syntax.proofs.Runs.{HasPassed}
use Rattle.vt_utf8.specs.Private.Ascii.{is_beyond}
use Rattle.vt_utf8.proofs.ascii.end_of.Given as goal

abbrev pub invariant-loop-at : goal.invariant-loop-at
invariant-loop-at l = HasPassed is_beyond l.piece 0 l.at

abbrev pub decreases-loop-at : goal.decreases-loop-at
decreases-loop-at l = length l.piece - l.at
