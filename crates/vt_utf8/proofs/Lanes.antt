-- Runs of ASCII bytes, seen a vector at a time through the mask of the lanes that end them.
use Rattle.std.proofs.Common.{◌≡◌, ℕ, zero, suc, ◌%◌, ◌^◌, ◌<◌, ◌≤◌, cond, ltb, List, [], ◌∷◌, map, length, replicate, refl, arith, w8, Fits}
use Rattle.std.proofs.lemmas.Bool.Decides.{nat_tests}
use Rattle.std.proofs.lemmas.List.{length-map, length-take, get_or-take}
use Rattle.std.proofs.lemmas.Simd.{mask_l-mod}
use lib.Lanes.{zip2, mask_l, top, Each1}
use Rattle.vt_syntax.proofs.Runs.{run_laws}
use Rattle.vt_utf8.specs.Private.Ascii.{is_beyond}

-- ones in each lane that is above 7F
abbrev above : ℕ → List ℕ → List ℕ
above n v = zip2 (λ a b. cond (ltb a b) 255 0) (replicate n 127) v

one : (x : ℕ) → x < 256 → top 7 (cond (ltb 127 x) 255 0) ≡ is_beyond x
one x h = grind (arith, nat_tests)

tops : (n : ℕ) (v : List ℕ) → length v ≡ n → Each1 (Fits w8) v → map (top 7) (above n v) ≡ map is_beyond v
tops zero [] long fits = refl
tops (suc n) [] long fits = absurd (omega arith)
tops zero (x ∷ v) long fits = absurd (omega arith)
tops (suc n) (x ∷ v) long fits = rw (one x fits.0.fits, tops n v (omega arith) fits.1) refl

pub ascii_mask : (n : ℕ) (v : List ℕ) → length v ≡ n → n ≤ 64 → Each1 (Fits w8) v
    → mask_l (map (top 7) (above n v)) % 2 ^ 64 ≡ mask_l (map is_beyond v)
ascii_mask n v long few fits =
    rw (tops n v long fits) (mask_l-mod (map is_beyond v) 64 (omega (arith, length-map v is_beyond)))

pub ruleset run_tests = (nat_tests, run_laws, get_or-take, length-take)
