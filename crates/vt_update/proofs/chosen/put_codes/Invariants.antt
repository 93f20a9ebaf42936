use Rattle.std.proofs.Common.{◌≡◌, ℕ, ◌+◌, ◌≤◌, take}
use Rattle.vt_paint.specs.Spoken.{Speaks}
use Rattle.vt_update.proofs.chosen.put_codes.Given as goal

abbrev pub invariant-loop-i : goal.invariant-loop-i
invariant-loop-i l = record {
  speaks : Speaks (take l.at l.fn.all) → Speaks (take (l.at + l.i) l.all);
  kept : (n : ℕ) → n ≤ l.at → take n l.all ≡ take n l.fn.all;
}
