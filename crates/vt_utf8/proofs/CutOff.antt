-- U+FFFD for one byte that ASCII cuts off, and the ASCII.
use Rattle.std.proofs.Common.{◌≡◌, ℕ, zero, suc, ◌<◌, ◌≤◌, List, [], ◌∷◌, ◌++◌, All, take, length, sym, ap, ◌∙◌, arith, subst}
use Rattle.std.specs.Prelude.{slice_index}
use Rattle.std.proofs.lemmas.List.{take-take}
use Rattle.std.proofs.lemmas.List.Elements.{All-take}
use Rattle.bstr.specs.Utf8.{replacement}
use Rattle.vt_utf8.specs.Decoding.{Read, read, characters, pending_after}
use Rattle.vt_utf8.specs.Private.Cut.{IsCut}
use Rattle.vt_utf8.proofs.Cuts.{ascii-pending, ascii-characters}
use Rattle.vt_utf8.proofs.Firsts.{first-ascii, when-cut, cut-lost}

-- ---- a front

pub shorter : (P : ℕ → Type 0) (m n : ℕ) (xs : List ℕ) → m ≤ n → All P (take n xs) → All P (take m xs)
shorter P m n xs less all =
    subst (λ (ys : List ℕ). All P ys) (take-take m n xs less) (All-take P m (take n xs) all)

pub front-cut : (pending piece : List ℕ) (n : ℕ) → 1 ≤ n → 1 ≤ length piece → IsCut pending (slice_index piece 0)
    → IsCut pending (slice_index (take n piece) 0)
front-cut pending piece zero many some cut = absurd (omega (arith, many))
front-cut pending [] (suc n) many some cut = absurd (omega (arith, some))
front-cut pending (b ∷ piece) (suc n) many some cut = cut

-- ---- the characters

module _ (pending : List ℕ) where
  module _ (b : ℕ) (cut : IsCut pending b) (low : b < 0x80) where
    pub told : (read pending b).characters ≡ replacement ∷ b ∷ []
    told = sym ((when-cut pending b cut).told (replacement ∷ []) (b ∷ []) (cut-lost pending b cut)
        (sym (ap (λ (r : Read). r.characters) (first-ascii b low))))

    pub left : (read pending b).pending ≡ []
    left = sym ((when-cut pending b cut).left [] (sym (ap (λ (r : Read). r.pending) (first-ascii b low))))

  pub cut-left : (run : List ℕ) → 1 ≤ length run → IsCut pending (slice_index run 0) → All (λ b. b < 0x80) run
      → pending_after pending run ≡ []
  cut-left [] some cut all = absurd (omega (arith, some))
  cut-left (b ∷ bytes) some cut all =
      ap (λ (q : List ℕ). pending_after q bytes) (left b cut (all 0 0 (omega arith)))
      ∙ ascii-pending bytes (λ k d less. all (suc k) d (omega (arith, less)))

  pub cut-characters : (run : List ℕ) → 1 ≤ length run → IsCut pending (slice_index run 0) → All (λ b. b < 0x80) run
      → characters pending run ≡ replacement ∷ run
  cut-characters [] some cut all = absurd (omega (arith, some))
  cut-characters (b ∷ bytes) some cut all =
      let low = all 0 0 (omega arith) in
      ap (λ (cs : List ℕ). cs ++ characters (read pending b).pending bytes) (told b cut low)
      ∙ ap (λ (q : List ℕ). replacement ∷ b ∷ characters q bytes) (left b cut low)
      ∙ ap (λ (t : List ℕ). replacement ∷ b ∷ t) (ascii-characters bytes (λ k d less. all (suc k) d (omega (arith, less))))
