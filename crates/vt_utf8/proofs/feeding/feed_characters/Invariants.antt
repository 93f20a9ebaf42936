-- The bytes before the place are played.
use Rattle.std.proofs.Common.{◌-◌, ◌*◌, ◌≤◌, length, take}
use Rattle.vt_utf8.specs.Sinks.{point, Feeds, Grows}
use Rattle.vt_utf8.proofs.feeding.feed_characters.Given as goal

abbrev pub invariant-loop-at : goal.invariant-loop-at
invariant-loop-at g l = record {
  within : l.at ≤ length l.piece;
  fed : Feeds g.S.Sink.Takes (point l.initial.terminal l.initial.sink l.initial.log l.initial.out.items) l.initial.decoder
      (take l.at l.piece) (point l.terminal l.sink l.log l.out.items) l.decoder;
  grows : Grows l.initial.out l.out (10 * l.at);
}

abbrev pub decreases-loop-at : goal.decreases-loop-at
decreases-loop-at g l = length l.piece - l.at
