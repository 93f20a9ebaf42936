-- Powers of ten.
use Rattle.std.proofs.Common.{ℕ, ◌≤◌, ◌<◌, ◌^◌, arith}
use Rattle.std.proofs.Math.Nat.{pow-le-pow_right}

-- what is less than one power is less than each greater one
pub below : (n i j : ℕ) → i ≤ j → n < 10 ^ i → n < 10 ^ j
below n i j le less = let more : 10 ^ i ≤ 10 ^ j = pow-le-pow_right (omega arith) le in omega (arith, less, more)

-- what up to fourteen digits write
pub fourteen : (n i : ℕ) → i < 15 → n < 10 ^ i → n < 100000000000000
fourteen n i le less = below n i 14 (omega (arith, le)) less
