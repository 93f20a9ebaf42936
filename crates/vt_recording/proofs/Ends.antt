-- No place before another one, and one more.
use Rattle.std.proofs.Common.{◌≡◌, ◌+◌, ◌<◌, ◌∙◌, ℕ, List, Bool, false, inl, inr, ap, arith, drop}
use Rattle.std.proofs.lemmas.Bool.Decides.{eqb_tells}

pub no_more : (test : List ℕ → Bool) (body : List ℕ) (at : ℕ) → ((k : ℕ) → k < at → test (drop k body) ≡ false)
    → test (drop at body) ≡ false → (k : ℕ) → k < at + 1
    → test (drop k body) ≡ false
no_more test body at before here k h =
    elim (eqb_tells k at) [
      | inl e ↦ ap (λ n. test (drop n body)) e.1 ∙ here
      | inr e ↦ before k (omega (arith, e))
    ]
