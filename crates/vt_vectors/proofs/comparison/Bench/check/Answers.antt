use Rattle.std.proofs.Common.{◌≡◌, ◌≤◌, ◌<◌, ◌+◌, ◌-◌, ◌++◌, ℕ, List, length, take, drop, arith, length-drop, refl, sym}
use Rattle.std.proofs.lemmas.List.{length-take}
use Rattle.std.proofs.Math.Seq.{take-add}
use Rattle.vt_vectors.proofs.comparison.Bench.check.Goals as goal

-- the piece of one byte
one-byte : (xs : List ℕ) (at : ℕ) → take (at + 1 - at) (drop at xs) ≡ take 1 (drop at xs)
one-byte xs at = let one : at + 1 - at ≡ 1 = omega arith in rw one refl

one-more : (xs : List ℕ) (at : ℕ) → take at xs ++ take (at + 1 - at) (drop at xs) ≡ take (at + 1) xs
one-more xs at = rw one-byte (sym (take-add at 1 xs))

few : (xs : List ℕ) (at : ℕ) → at < length xs → length (take (at + 1 - at) (drop at xs)) ≡ 1
few xs at within = let left : 1 ≤ length (drop at xs) = rw length-drop (omega arith) in
    rw one-byte (rw length-take (omega arith))

pub loop-at-preserved : goal.loop-at-preserved
loop-at-preserved c = record {
  ready = c.feed-in-loop-at.ensures.ready;
  played = rw one-more at (c.feed-in-loop-at.ensures.played _ c.loop-at.invariant.played);
  reports = omega (
    arith,
    c.feed-in-loop-at.ensures.reports,
    few c.args.v.now.input.now c.loop-at.at c.loop-at-test.true,
  );
  room = omega (arith, c.feed-in-loop-at.ensures.capacity, c.loop-at.invariant.room);
}
