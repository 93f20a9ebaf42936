-- Numbers of one digit and of two.
use Rattle.std.proofs.Common.{◌≡◌, ℕ, ◌+◌, ◌≤◌, ◌<◌, ◌/◌, ◌%◌, [], ◌∷◌, ◌++◌, List, refl, sym, ap, ◌∙◌, arith, decimal, nat_eq, append_assoc, Bool}
use Rattle.std.specs.Fmt.{digits}
use Rattle.std.specs.Cmp.Lexicographic.{pointwise, bytes_decides}
use Rattle.vt_glyph.proofs.Lists.{all_in_range}

has_one : ℕ → Bool
has_one n = pointwise nat_eq (decimal n) ((48 + n) ∷ [])

has_two : ℕ → Bool
has_two n = pointwise nat_eq (decimal n) ((48 + n / 10) ∷ (48 + n % 10) ∷ [])

pub one_digit : (n : ℕ) → n < 10 → decimal n ≡ (48 + n) ∷ []
unfolding has_one digits
one_digit n low =
    (bytes_decides (decimal n) ((48 + n) ∷ [])).0 (all_in_range has_one 0 10 n refl (omega arith) (omega (arith, low)))

pub two_digits : (n : ℕ) → 10 ≤ n → n < 100 → decimal n ≡ (48 + n / 10) ∷ (48 + n % 10) ∷ []
unfolding has_two digits
two_digits n low high =
    (bytes_decides (decimal n) ((48 + n / 10) ∷ (48 + n % 10) ∷ [])).0
    (all_in_range has_two 10 90 n refl low (omega (arith, high)))

pub pushed_one : (n : ℕ) (old more : List ℕ) → n < 10 → more ≡ old ++ ((48 + n) ∷ []) → more ≡ old ++ decimal n
pushed_one n old more low is = is ∙ ap (λ (l : List ℕ). old ++ l) (sym (one_digit n low))

pub pushed_two : (n : ℕ) (old more : List ℕ) → 10 ≤ n → n < 100 → more ≡ old ++ ((48 + n / 10) ∷ (48 + n % 10) ∷ [])
    → more ≡ old ++ decimal n
pushed_two n old more low high is = is ∙ ap (λ (l : List ℕ). old ++ l) (sym (two_digits n low high))

pub put_two : (n : ℕ) (old mid more : List ℕ) → 10 ≤ n → n < 100 → mid ≡ old ++ ((48 + n / 10) ∷ [])
    → more ≡ mid ++ ((48 + n % 10) ∷ []) → more ≡ old ++ decimal n
put_two n old mid more low high first second =
    pushed_two n old more low high (second ∙ ap (λ (l : List ℕ). l ++ ((48 + n % 10) ∷ [])) first
    ∙ append_assoc old ((48 + n / 10) ∷ []) ((48 + n % 10) ∷ []))
