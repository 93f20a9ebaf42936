use Rattle.std.proofs.Common.{◌≡◌, ℕ, ◌+◌, ◌≤◌, ◌++◌, length, take}
use Rattle.vt_paint.proofs.bytes.put_front.Given as goal

abbrev pub invariant-loop-i : goal.invariant-loop-i
invariant-loop-i g l = record {
  items : take (l.at + l.i) l.all ≡ take l.at l.fn.all ++ take l.i l.part;
  kept : (n : ℕ) → n ≤ l.at → take n l.all ≡ take n l.fn.all;
  long : length l.all ≡ length l.fn.all;
}
