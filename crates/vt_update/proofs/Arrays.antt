-- The bytes of what has an element for each row.
use Rattle.std.proofs.Common.{ℕ, ◌+◌, ◌-◌, ◌*◌, ◌%◌, ◌≤◌, ◌<◌, arith}
use Rattle.std.proofs.lemmas.Nat.{mul-le}

-- the next place for a value that is aligned to four bytes, and to eight
abbrev by_4 : ℕ → ℕ
by_4 e = e + (4 - e % 4) % 4

abbrev by_8 : ℕ → ℕ
by_8 e = e + (8 - e % 8) % 8

near-4 : (e : ℕ) → by_4 e ≤ e + 3
near-4 e = omega arith

near-8 : (e : ℕ) → by_8 e ≤ e + 7
near-8 e = omega arith

pub votes-fit : (r : ℕ) → r ≤ 255 → by_8 (by_4 (by_4 (0 + r * 8) + r * 4) + r * 4) < 9223372036854775808
votes-fit r few =
    let first = near-4 (0 + r * 8) in
    let second = near-4 (by_4 (0 + r * 8) + r * 4) in
    let last = near-8 (by_4 (by_4 (0 + r * 8) + r * 4) + r * 4) in
    omega (arith, few, first, second, last)

pub marks-fit : (r c : ℕ) → r ≤ 255 → c ≤ 255 → r * (c * 1) < 9223372036854775808
marks-fit r c few short =
    let all : r * (c * 1) ≤ 255 * 255 = mul-le r (c * 1) 255 255 few (omega (arith, short)) in
    omega (arith, all)
