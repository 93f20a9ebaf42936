-- First bytes: with nothing pending, and after one that they cut off.
use Rattle.std.proofs.Common.{◌≡◌, ℕ, ◌≤◌, ◌<◌, ◌⊎◌, List, [], ◌∷◌, length, Some, None, true, false, inl, inr, refl, sym, ◌∙◌, arith}
use Rattle.std.specs.Prelude.{Bool, Option, IfSome, nat_lt, ◌==◌}
use Rattle.std.specs.Option.{option_to_list}
use Rattle.std.proofs.lemmas.Bool.Decides.{nat_tests}
use Rattle.bstr.specs.Utf8.{decoded, continues, second, replacement}
use Rattle.vt_utf8.specs.Decoding.{is_begun, given_up, read, read_first}
use Rattle.vt_utf8.specs.Private.Cut.{IsCut}
use Rattle.vt_utf8.proofs.Reading.{IsReadApart, when-begun, when-whole, when-other}

-- ---- a byte with nothing pending

pub first-ascii : (b : ℕ) → b < 0x80 → read_first b ≡ record { characters = b ∷ []; pending = [] }
unfolding is_begun
first-ascii b low = let is : nat_lt b 0x80 ≡ true = grind (arith, nat_tests) in rw is refl

first-none : (b : ℕ) → 0x80 ≤ b → b < 0xC2 → read_first b ≡ record { characters = replacement ∷ []; pending = [] }
unfolding is_begun
first-none b low high =
    let e : nat_lt b 0x80 ≡ false = grind (arith, nat_tests) in
    let f : nat_lt b 0xC2 ≡ true = grind (arith, nat_tests) in
    rw (e, f) refl

first-over : (b : ℕ) → 0xF4 < b → read_first b ≡ record { characters = replacement ∷ []; pending = [] }
unfolding is_begun
first-over b over =
    let a : nat_lt b 0x80 ≡ false = grind (arith, nat_tests) in
    let e : nat_lt b 0xC2 ≡ false = grind (arith, nat_tests) in
    let f : nat_lt b 0xE0 ≡ false = grind (arith, nat_tests) in
    let g : nat_lt b 0xF0 ≡ false = grind (arith, nat_tests) in
    let h : nat_lt b 0xF5 ≡ false = grind (arith, nat_tests) in
    let i : nat_lt 0xF4 b ≡ true = grind (arith, nat_tests) in
    rw (a, e, f, g, h, i) refl

-- it begins no character
pub first-apart : (b : ℕ) → 0x80 ≤ b → (b < 0xC2) ⊎ (0xF4 < b) → read_first b ≡ record { characters = replacement ∷ []; pending = [] }
first-apart b beyond (inl low) = first-none b beyond low
first-apart b beyond (inr over) = first-over b over

pub first-begun : (b : ℕ) → 0xC2 ≤ b → b ≤ 0xF4 → read_first b ≡ record { characters = []; pending = b ∷ [] }
unfolding is_begun
first-begun b low high =
    let begun : is_begun (b ∷ []) ≡ true = grind (arith, nat_tests) in
    rw begun refl

-- it is read as the first one
nothing-by : (b : ℕ) (begun : Bool) (found : Option ℕ) → is_begun (b ∷ []) ≡ begun → (decoded (b ∷ [])).char ≡ found
    → read [] b ≡ read_first b
nothing-by b true found is are =
    let first : read_first b ≡ record { characters = []; pending = b ∷ [] } = rw is refl in
    when-begun [] b (b ∷ []) refl is ∙ sym first
nothing-by b false (Some c) is are =
    let first : read_first b ≡ record { characters = c ∷ []; pending = [] } = rw (is, are) refl in
    when-whole [] b (b ∷ []) refl c is are ∙ sym first
nothing-by b false None is are =
    let apart = when-other [] b (b ∷ []) refl is are in
    let told : (read [] b).characters ≡ (read_first b).characters = sym (apart.told [] (read_first b).characters refl refl) in
    let left : (read [] b).pending ≡ (read_first b).pending = sym (apart.left (read_first b).pending refl) in
    λ ι. record { characters = told ι; pending = left ι }

pub read-nothing : (b : ℕ) → read [] b ≡ read_first b
read-nothing b = nothing-by b (is_begun (b ∷ [])) (decoded (b ∷ [])).char refl refl

pub when-nothing : (pending : List ℕ) (b : ℕ) → (length pending == 0) ≡ true → read pending b ≡ read_first b
when-nothing [] b none = read-nothing b
when-nothing (p ∷ pending) b none = absurd (grind (arith, nat_tests))

-- ---- a byte that cuts off another

apart-second : (p b : ℕ) → continues b ≡ false → second p b ≡ false
apart-second p b apart = grind (arith, nat_tests)

module _ (p b : ℕ) (beyond : 0x80 ≤ p) (apart : continues b ≡ false) where
  no-ascii : nat_lt p 0x80 ≡ false
  no-ascii = grind (arith, nat_tests)

  cut-by : (low over : Bool) → nat_lt p 0xC2 ≡ low → nat_lt 0xF4 p ≡ over → decoded (p ∷ b ∷ []) ≡ record { char = None; size = 1 }
  cut-by true over e f = rw (no-ascii, e) refl
  cut-by false true e f = rw (no-ascii, e, f) refl
  cut-by false false e f = rw (no-ascii, e, f, apart-second p b apart) refl

  cut-decoded : decoded (p ∷ b ∷ []) ≡ record { char = None; size = 1 }
  cut-decoded = cut-by (nat_lt p 0xC2) (nat_lt 0xF4 p) refl refl

  cut-begun : is_begun (p ∷ b ∷ []) ≡ false
  unfolding is_begun
  cut-begun = rw cut-decoded refl

  cut-apart : IsReadApart (p ∷ []) b
  cut-apart = when-other (p ∷ []) b (p ∷ b ∷ []) refl cut-begun (rw cut-decoded refl)

pub when-cut : (pending : List ℕ) (b : ℕ) → IsCut pending b → IsReadApart pending b
when-cut [] b cut = absurd (let one = cut.one in omega (arith, one))
when-cut (p ∷ []) b cut = cut-apart p b cut.beyond cut.apart
when-cut (p ∷ q ∷ pending) b cut = absurd (let one = cut.one in omega (arith, one))

pub cut-lost : (pending : List ℕ) (b : ℕ) → IsCut pending b → replacement ∷ [] ≡ given_up pending
cut-lost [] b cut = absurd (let one = cut.one in omega (arith, one))
cut-lost (p ∷ pending) b cut = refl

-- what is given up is U+FFFD
pub lost-is : (lost : Option ℕ) (c : ℕ) → lost ≡ Some c → IfSome lost (λ d. d ≡ replacement) → option_to_list lost ≡ replacement ∷ []
lost-is None c is fact = absurd cc
lost-is (Some d) c is fact = rw fact refl
