-- Tests of every element of a list.
use Rattle.std.proofs.Common.{◌≡◌, ℕ, zero, suc, ◌+◌, ◌≤◌, ◌<◌, List, [], ◌∷◌, Bool, true, false, ◌&&◌, ◌||◌, eqb}
use Rattle.std.proofs.Common.{arith, refl, sym, ap, ◌∙◌}
use Rattle.std.specs.List.{range_with_len, list_any, list_all}
use Rattle.std.proofs.lemmas.Bool.{eqb-true}
use Rattle.std.proofs.lemmas.Bool.Decides.{nat_tests}

-- both of two tests that pass together
pub both : (a b : Bool) → a && b ≡ true → (a ≡ true) × (b ≡ true)
both true b h = (refl, h)
both false b h = absurd cc

-- either of two tests, one of which passes
pub either : (P : Type 0) (a b : Bool) → a || b ≡ true → (a ≡ true → P) → (b ≡ true → P) → P
either P true b h f g = f refl
either P false b h f g = g h

-- a test of a range holds of each number in it
pub all_in_range : (p : ℕ → Bool) (a n k : ℕ) → list_all p (range_with_len a n) ≡ true → a ≤ k → k < a + n → p k ≡ true
all_in_range p a zero k h low high = absurd (omega arith)
all_in_range p a (suc n) k h low high =
    let parts = both (p a) (list_all p (range_with_len (a + 1) n)) h in
    go (eqb a k) refl parts.0 (λ l u. all_in_range p (a + 1) n k parts.1 l u)
  where
    go : (b : Bool) → eqb a k ≡ b → p a ≡ true → (a + 1 ≤ k → k < a + 1 + n → p k ≡ true) → p k ≡ true
    go true e here rest = ap p (sym (eqb-true a k e)) ∙ here
    go false e here rest = rest (grind (arith, nat_tests)) (omega arith)

-- what holds of all values of a function on a list holds of one that it takes there
pub all_taken : (p : ℕ → Bool) (f : ℕ → ℕ) (xs : List ℕ) (n : ℕ) → list_all (λ x. p (f x)) xs ≡ true
    → list_any (λ x. eqb (f x) n) xs ≡ true → p n ≡ true
all_taken p f [] n h e = absurd cc
all_taken p f (x ∷ xs) n h e =
    let parts = both (p (f x)) (list_all (λ y. p (f y)) xs) h in
    either (p n ≡ true) (eqb (f x) n) (list_any (λ y. eqb (f y) n) xs) e
    (λ d. ap p (sym (eqb-true (f x) n d)) ∙ parts.0)
    (λ d. all_taken p f xs n parts.1 d)
