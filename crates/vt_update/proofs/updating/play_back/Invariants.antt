use Rattle.std.proofs.Common.{◌≡◌, ◌+◌, ◌-◌, ◌*◌, ◌≤◌, [], IsTrue, take, drop, vec_len, vec_capacity}
use Rattle.vt_term.specs.Play.{play}
use Rattle.vt_update.proofs.updating.play_back.Given as goal

abbrev pub invariant-loop-at : goal.invariant-loop-at
invariant-loop-at l = record {
  within : l.at ≤ l.all;
  some : 1 ≤ l.chunk;
  chunk : l.chunk ≤ 1024;
  room : vec_len l.initial.out + 10 * l.chunk ≤ vec_capacity l.initial.out;
  items : l.out.items ≡ l.initial.out.items;
  capacity : vec_capacity l.initial.out ≤ vec_capacity l.out;
  state : l.shown ≡ (play l.initial.shown (take l.at (drop l.start l.initial.out.items))).state;
  silent : IsTrue l.silent → (play l.initial.shown (take l.at (drop l.start l.initial.out.items))).reports ≡ [];
}

abbrev pub decreases-loop-at : goal.decreases-loop-at
decreases-loop-at l = l.all - l.at
