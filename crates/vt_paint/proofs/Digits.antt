-- Numbers of a byte, by their digits.
use Rattle.std.proofs.Common.{◌≡◌, true, ℕ, ◌+◌, ◌/◌, ◌%◌, ◌≤◌, ◌<◌, List, [], ◌∷◌, refl, arith, decimal}
use Rattle.std.specs.Fmt.{digits}
use Rattle.std.specs.List.{list_all, range_with_len}
use Rattle.vt_glyph.proofs.Lists.{all_in_range}
use Rattle.vt_paint.proofs.Spelled.{same_bytes, same_bytes-is}

abbrev two : ℕ → List ℕ
two n = (48 + n / 10) ∷ (48 + n % 10) ∷ []

abbrev three : ℕ → List ℕ
three n = (48 + n / 100) ∷ (48 + n / 10 % 10) ∷ (48 + n % 10) ∷ []

twos : list_all (λ n. same_bytes (two n) (decimal n)) (range_with_len 10 90) ≡ true
unfolding digits
twos = refl

threes : list_all (λ n. same_bytes (three n) (decimal n)) (range_with_len 100 156) ≡ true
unfolding digits
threes = refl

pub two_digits : (n : ℕ) → 10 ≤ n → n < 100 → (48 + n / 10) ∷ (48 + n % 10) ∷ [] ≡ decimal n
two_digits n h k =
    same_bytes-is _ _ (all_in_range (λ n. same_bytes (two n) (decimal n)) 10 90 n twos h (omega arith))

pub three_digits : (n : ℕ) → 100 ≤ n → n < 256 → (48 + n / 100) ∷ (48 + n / 10 % 10) ∷ (48 + n % 10) ∷ [] ≡ decimal n
three_digits n h k =
    same_bytes-is _ _ (all_in_range (λ n. same_bytes (three n) (decimal n)) 100 156 n threes h (omega arith))
