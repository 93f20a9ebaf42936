-- The bytes before the place are played.
use Rattle.std.proofs.Common.{◌≡◌, ◌+◌, ◌-◌, ◌*◌, ◌≤◌, length, take, vec_len, vec_capacity}
use Rattle.vt_syntax.specs.declared.held.Held.TheVariants.{Nothing}
use Rattle.vt_feed.specs.Actions.{Plays}
use Rattle.vt_feed.specs.Languages.{eight_bit}
use Rattle.vt_feed.specs.Observing.{happenings}
use Rattle.vt_feed.proofs.feeding.feed_between.Given as goal

abbrev pub invariant-loop-at : goal.invariant-loop-at
invariant-loop-at g l = record {
  within : l.at ≤ length l.piece;
  between : l.parser ≡ Nothing;
  plays : Plays eight_bit g.M.Machine.machine l.initial.parser l.initial.machine (take l.at l.piece) l.parser l.machine l.initial.out.items
      l.out.items;
  saw : g.O.Observer.Saw l.initial.observer (happenings eight_bit g.M.Machine.machine l.initial.parser l.initial.machine (take l.at l.piece)) l.observer;
  bounded : vec_len l.out ≤ vec_len l.initial.out + 10 * l.at;
  capacity : vec_capacity l.initial.out ≤ vec_capacity l.out;
}

abbrev pub decreases-loop-at : goal.decreases-loop-at
decreases-loop-at g l = length l.piece - l.at
