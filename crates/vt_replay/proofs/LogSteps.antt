-- A log of a part of a chunk: some bytes are played, and of none nothing is written.
use Rattle.std.proofs.Common.{◌≡◌, ℕ, ◌+◌, ◌-◌, ◌<◌, ◌≤◌, List, [], ◌++◌, length, take, ap, ◌∙◌, append-nil, arith, inl, inr}
use Rattle.std.specs.Prelude.{◌⊎◌}
use Rattle.std.proofs.lemmas.Bool.Decides.{leb_tells}

-- bytes are played, if there is capacity for those of one
pub goes-on : (r n limit len after room later most : ℕ) → 1 ≤ n
    → (r < n → (later < after + limit) ⊎ (len + most < after + limit)) → (r ≡ 0 → after ≡ len) → len + limit ≤ room
    → most ≡ room - len → room ≤ later → 1 ≤ r
goes-on r n limit len after room later most some full same fits is grows = elim (leb_tells 1 r) [
  | inl e ↦ e.1
  | inr e ↦
      let none : r ≡ 0 = omega (arith, e.1) in
      let stays = same none in
      elim (full (omega (arith, none, some))) [
        | inl less ↦ absurd (omega (arith, less, stays, fits, grows))
        | inr less ↦ absurd (omega (arith, less, stays, fits, is))
      ]
]

-- nothing is written of no bytes
pub no-lines : (written : List ℕ → List ℕ) (bytes before out : List ℕ) (r : ℕ) → written [] ≡ []
    → out ≡ before ++ written (take r bytes) → r ≡ 0 → length out ≡ length before
no-lines written bytes before out r none lines is =
    let same : out ≡ before ++ written (take 0 bytes) = lines ∙ ap (λ (k : ℕ). before ++ written (take k bytes)) is in
    ap (λ (l : List ℕ). length l) (same ∙ ap (λ (l : List ℕ). before ++ l) none ∙ append-nil before)
