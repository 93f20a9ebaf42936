-- Runs of bytes of a class, seen a vector at a time through the mask of the lanes that end them.
use Rattle.std.proofs.Common.{◌≡◌, ℕ, zero, suc, ◌+◌, ◌-◌, ◌%◌, ◌^◌, ◌<◌, ◌≤◌, Bool, true, false, not, cond, eqb, ltb}
use Rattle.std.proofs.Common.{List, [], ◌∷◌, ◌++◌, map, length, take, drop, replicate, get_or, refl, ap, ap₂, ◌∙◌}
use Rattle.std.proofs.Common.{arith, bit_and, bit_or, w8, Fits}
use Rattle.std.specs.List.{prefix_len}
use Rattle.std.proofs.lemmas.Bool.Decides.{nat_tests}
use Rattle.std.proofs.lemmas.List.{length-map, length-take, get_or-take}
use Rattle.std.proofs.lemmas.List.Sums.{prefix_len-le-length, prefix_len_passes, prefix_len_stops}
use Rattle.std.proofs.lemmas.Simd.{chunk-drop, length-chunk, trailing_mask_l, mask_l-mod}
use lib.Lanes.{chunk, zip2, mask_l, top, Each1}
use lib.Count.{count_trailing_zeros}
use Rattle.vt_syntax.specs.declared.held.Held.TheVariants.{Text}
use Rattle.vt_syntax.specs.Class.{is_plain, is_in_areas, is_of_lines}
use Rattle.vt_syntax.specs.Items.{ends_string}
use Rattle.vt_syntax.specs.Steps.{step_to, step_of, steps}
use Rattle.vt_syntax.specs.Content.{goes_on}
use Rattle.vt_syntax.proofs.Steps.{steps_nil, steps_more}

-- ---- the mask of a vector

-- lanes computed one by one, each with its top bit set if the byte ends a run
module _ (lanes : ℕ → List ℕ → List ℕ) (f : ℕ → ℕ) (ends : ℕ → Bool) (none : lanes 0 [] ≡ [])
    (more : (n x : ℕ) (v : List ℕ) → lanes (suc n) (x ∷ v) ≡ f x ∷ lanes n v)
    (one : (x : ℕ) → x < 256 → top 7 (f x) ≡ ends x) where
  tops : (n : ℕ) (v : List ℕ) → length v ≡ n → Each1 (Fits w8) v → map (top 7) (lanes n v) ≡ map ends v
  tops zero [] long fits = rw none refl
  tops (suc n) [] long fits = absurd (omega arith)
  tops zero (x ∷ v) long fits = absurd (omega arith)
  tops (suc n) (x ∷ v) long fits = rw (more n x v, one x fits.0.fits, tops n v (omega arith) fits.1) refl

  mask_of : (n : ℕ) (v : List ℕ) → length v ≡ n → n ≤ 64 → Each1 (Fits w8) v
      → mask_l (map (top 7) (lanes n v)) % 2 ^ 64 ≡ mask_l (map ends v)
  mask_of n v long few fits =
      rw (tops n v long fits) (mask_l-mod (map ends v) 64 (omega (arith, length-map v ends)))

-- the lanes less a byte, with wrapping
abbrev less : ℕ → ℕ → List ℕ → List ℕ
less n first v = zip2 (λ a b. (a + (256 - b)) % 256) v (replicate n first)

-- ones in each lane that is below that of another vector
abbrev below : List ℕ → List ℕ → List ℕ
below = zip2 (λ a b. cond (ltb a b) 255 0)

-- less 20, with wrapping, a byte that isn't plain is above 5E
pub plain_mask : (n : ℕ) (v : List ℕ) → length v ≡ n → n ≤ 64 → Each1 (Fits w8) v
    → mask_l (map (top 7) (below (replicate n 94) (less n 32 v))) % 2 ^ 64 ≡ mask_l (map (λ b. not (is_plain b)) v)
plain_mask = mask_of _ _ _ refl (λ n x v. refl) (λ x h. grind (arith, nat_tests))

-- less 20 a byte of neither area is above 5E, and less A1 above 5D
pub graphic_mask : (n : ℕ) (v : List ℕ) → length v ≡ n → n ≤ 64 → Each1 (Fits w8) v
    → mask_l (map (top 7) (zip2 bit_and (below (replicate n 94) (less n 32 v)) (below (replicate n 93) (less n 161 v))))
    % 2 ^ 64 ≡ mask_l (map (λ b. not (is_in_areas b)) v)
graphic_mask = mask_of _ _ _ refl (λ n x v. refl) (λ x h. grind (arith, nat_tests))

-- twice a byte that is in no column of graphic bytes is below 40, with wrapping; less 8 a byte that isn't BS to CR is above 5
pub lines_mask : (n : ℕ) (v : List ℕ) → length v ≡ n → n ≤ 64 → Each1 (Fits w8) v
    → mask_l (map (top 7) (zip2 bit_and (below (zip2 (λ a b. (a + b) % 256) v v) (replicate n 64))
    (below (replicate n 5) (less n 8 v)))) % 2 ^ 64 ≡ mask_l (map (λ b. not (is_of_lines b)) v)
lines_mask = mask_of _ _ _ refl (λ n x v. refl) (λ x h. grind (arith, nat_tests))

-- a byte from 18 to 1B, 9C or 07: less the first of each it is below how many there are
pub content_mask : (n : ℕ) (v : List ℕ) → length v ≡ n → n ≤ 64 → Each1 (Fits w8) v
    → mask_l (map (top 7) (zip2 bit_or (below (less n 24 v) (replicate n 4)) (zip2 bit_or
    (below (less n 156 v) (replicate n 1)) (below (less n 7 v) (replicate n 1)))))
    % 2 ^ 64 ≡ mask_l (map (λ b. not (goes_on b)) v)
content_mask = mask_of _ _ _ refl (λ n x v. refl) (λ x h. grind (arith, nat_tests))

-- ---- the run at the front

-- a run goes through lanes whose mask is empty, and else ends in them
masked : (ends : ℕ → Bool) (ys more : List ℕ) → prefix_len (λ x. not (ends x)) (ys ++ more)
    ≡ cond (eqb (mask_l (map ends ys)) 0) (length ys + prefix_len (λ x. not (ends x)) more)
    (prefix_len (λ x. not (ends x)) ys)
masked ends [] more = omega arith
masked ends (y ∷ ys) more = let e = masked ends ys more in grind (arith, nat_tests)

pub run_from : {m : ℕ} (ends : ℕ → Bool) (xs : List ℕ) (i n : ℕ) → i + n ≤ length xs → n ≤ 64
    → m ≡ mask_l (map ends (chunk i n xs))
    → (m ≡ 0 → prefix_len (λ x. not (ends x)) (drop i xs) ≡ n + prefix_len (λ x. not (ends x)) (drop (i + n) xs))
    × (0 < m → prefix_len (λ x. not (ends x)) (drop i xs) ≡ count_trailing_zeros 64 m)
run_from ends xs i n room few is =
    let long = length-chunk i n xs room in
    let trailing = trailing_mask_l ends 64 (chunk i n xs) (omega arith) in
    let whole = masked ends (chunk i n xs) (drop (i + n) xs) in
    rw (chunk-drop i n xs, is) (λ none. grind (arith, nat_tests), λ some. grind (arith, nat_tests))

-- a search from one place has come to another, and passed bytes of the run alone
pub record HasPassed (ends : ℕ → Bool) (piece : List ℕ) (from at : ℕ) : Type 0 where
  pub within : at ≤ length piece
  pub so_far : from + prefix_len (λ b. not (ends b)) (drop from piece)
      ≡ at + prefix_len (λ b. not (ends b)) (drop at piece)

-- what holds of the bytes of a run, and of the one after it
pub run_laws : (p : ℕ → Bool) (xs : List ℕ) → (prefix_len p xs ≤ length xs)
    × ((k d : ℕ) → k < prefix_len p xs → p (get_or xs k d) ≡ true)
    × (prefix_len p xs < length xs → p (get_or xs (prefix_len p xs) 0) ≡ false)
run_laws p xs = (prefix_len-le-length p xs, λ k d h. prefix_len_passes p xs k d h, λ h. prefix_len_stops p xs 0 h)

pub ruleset run_tests = (nat_tests, run_laws, get_or-take, length-take)

-- ---- what goes on is content

pub run_goes_on : (osc : Bool) (piece : List ℕ) (n : ℕ) → n ≤ prefix_len (λ b. not (not (goes_on b))) piece
    → steps (Text osc) (take n piece) ≡ step_to (Text osc) []
unfolding step_of ends_string
run_goes_on osc piece zero few = steps_nil (Text osc)
run_goes_on osc piece (suc n) few =
    let laws = run_laws (λ b. not (not (goes_on b))) piece in
    let is = laws.1 n 0 (omega arith) in
    let next : n + 1 ≡ suc n = omega arith in
    rw (← next) (steps_more (Text osc) (Text osc) piece n (omega arith) (run_goes_on osc piece n (omega arith))
    ∙ grind (arith, nat_tests))

pub ruleset content_run = (run_laws, run_goes_on)
