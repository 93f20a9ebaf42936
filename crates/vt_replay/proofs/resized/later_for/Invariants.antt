use Rattle.std.proofs.Common.{◌≡◌, ◌-◌, ◌≤◌, length, take}
use Rattle.std.specs.VecDeque.{deque_len, deque_capacity}
use Rattle.vt_replay.specs.Resizes.{coming}
use Rattle.vt_replay.proofs.resized.later_for.Given as goal

abbrev pub invariant-loop-i : goal.invariant-loop-i
invariant-loop-i g l = record {
  within : l.i ≤ length l.resizes;
  count : deque_len l.later ≡ l.i;
  room : length l.resizes ≤ deque_capacity l.later;
  front : coming l.later.items (λ x. x.after) (λ x. g.P.Player.screen x.target) ≡ take l.i l.resizes;
}

abbrev pub decreases-loop-i : goal.decreases-loop-i
decreases-loop-i g l = length l.resizes - l.i
