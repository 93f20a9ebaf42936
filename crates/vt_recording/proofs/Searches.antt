-- What a search for a byte finds.
use Rattle.std.proofs.Common.{◌≡◌, ℕ, List, length, get_or, Bool, true, false, Option, Some, None, refl, arith, nat_lt, position, le-ltb, lt-ltb, le_refl}
use Rattle.std.specs.List.{position_or_len}
use Rattle.std.proofs.lemmas.List.Sums.{position_or_len_is}
use Rattle.memchr.specs.Find.{IsFirstByte}

no_pass : (b : Bool) → (b ≡ true → ⊥) → b ≡ false
no_pass true h = absurd (h refl)
no_pass false h = refl

-- the first byte that passes a test is at the position of the test
pub found_at : (test : ℕ → Bool) (xs : List ℕ) (found : Option ℕ) → IsFirstByte test xs found → found ≡ position test xs
found_at test xs None h =
    let end : position_or_len test xs ≡ length xs =
    position_or_len_is test xs (length xs) 0 (le_refl (length xs)) (λ k less. no_pass (test (get_or xs k 0)) (h k (omega arith) less)) (λ less. absurd (omega (arith, less))) in
    let over : nat_lt (length xs) (length xs) ≡ false = le-ltb (length xs) (length xs) (le_refl (length xs)) in
    rw (end, over) refl
found_at test xs (Some at) h =
    let here : position_or_len test xs ≡ at =
    position_or_len_is test xs at 0 (omega (arith, h.0.high)) (λ k less. no_pass (test (get_or xs k 0)) (h.0.before k (omega arith) less)) (λ less. h.1) in
    let within : nat_lt at (length xs) ≡ true = lt-ltb at (length xs) h.0.high in
    rw (here, within) refl
