-- The bytes before the place are played.
use Rattle.std.proofs.Common.{◌+◌, ◌-◌, ◌*◌, ◌≤◌, length, take, vec_len, vec_capacity}
use Rattle.vt_term.specs.Observing.{Feeds, happenings_of}
use Rattle.vt_term.proofs.sized.SizedTerminal.feed_as.Given as goal

abbrev pub invariant-loop-at : goal.invariant-loop-at
invariant-loop-at g l = record {
  within : l.at ≤ length l.piece;
  fed : Feeds g.P.Profile.machine g.P.Profile.screens l.initial.self l.initial.profile (take l.at l.piece) l.self l.profile l.initial.out.items l.out.items;
  saw : g.O.Observer.Saw l.initial.observer (happenings_of g.P.Profile.machine g.P.Profile.screens l.initial.self l.initial.profile (take l.at l.piece)) l.observer;
  bounded : vec_len l.out ≤ vec_len l.initial.out + 10 * l.at;
  capacity : vec_capacity l.initial.out ≤ vec_capacity l.out;
}

abbrev pub decreases-loop-at : goal.decreases-loop-at
decreases-loop-at g l = length l.piece - l.at
