-- The bytes before the place are played.
use Rattle.std.proofs.Common.{◌≡◌, ◌-◌, ◌≤◌, length, take, vec_capacity}
use Rattle.vt220_c.specs.Told.{Plays}
use Rattle.vt220_c.proofs.playing.play.Given as goal

abbrev pub invariant-loop-done : goal.invariant-loop-done
invariant-loop-done g l = record {
  within : l.done.taken ≤ length l.piece;
  fed : Plays l.logs l.counts (g.P.Player.told l.initial.inner l.initial.player (take l.done.taken l.piece)) l.inner l.player
      l.initial.out 0 l.out l.initial.lines 0 l.lines l.done.written l.done.lines_written l.done.bells;
  fits : l.done.written ≤ length l.initial.out;
  few : l.done.bells ≤ l.done.taken;
  size : l.inner.display.grid.size ≡ l.initial.inner.display.grid.size;
  kept : g.P.Player.Fits l.initial.inner.display.grid.size l.player;
  capacity : vec_capacity l.initial.room ≤ vec_capacity l.room;
}

abbrev pub decreases-loop-done : goal.decreases-loop-done
decreases-loop-done g l = length l.piece - l.done.taken
