-- The bytes before the rest are played, and nothing is held.
use Rattle.std.proofs.Common.{◌≡◌, ◌+◌, ◌-◌, ◌*◌, ◌≤◌, length, take, drop, vec_len, vec_capacity}
use Rattle.vt_syntax.specs.declared.held.Held.TheVariants.{Nothing}
use Rattle.vt_term.specs.Observing.{Feeds, happenings_of}
use Rattle.vt_term.proofs.sized.SizedTerminal.feed_between.Given as goal

abbrev pub invariant-loop-rest : goal.invariant-loop-rest
invariant-loop-rest g l = record {
  within : length l.rest ≤ length l.piece;
  rest : l.rest ≡ drop (length l.piece - length l.rest) l.piece;
  between : l.self.held ≡ Nothing;
  fed : Feeds g.P.Profile.machine g.P.Profile.screens l.initial.self l.initial.profile (take (length l.piece - length l.rest) l.piece) l.self l.profile l.initial.out.items
      l.out.items;
  saw : g.O.Observer.Saw l.initial.observer (happenings_of g.P.Profile.machine g.P.Profile.screens l.initial.self l.initial.profile (take (length l.piece - length l.rest) l.piece)) l.observer;
  bounded : vec_len l.out ≤ vec_len l.initial.out + 10 * (length l.piece - length l.rest);
  capacity : vec_capacity l.initial.out ≤ vec_capacity l.out;
}

abbrev pub decreases-loop-rest : goal.decreases-loop-rest
decreases-loop-rest g l = length l.rest
