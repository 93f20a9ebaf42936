-- The table of row starts: each once.
use Rattle.std.proofs.Common.{◌≡◌, ◌≢◌, ◌⊎◌, inl, inr, ℕ, ◌+◌, ◌-◌, ◌*◌, ◌≤◌, ◌<◌, eqb, length, get_or, arith, sym, ap, ◌∙◌}
use Rattle.std.specs.List.{IsDistinct}
use Rattle.std.proofs.lemmas.List.FromFn.{get_or-map-range_with_len, length-map-range_with_len}
use Rattle.std.proofs.lemmas.List.Sorted.{length_permutation, All-permutation}
use Rattle.std.proofs.lemmas.Map.Keys.{IsDistinct-IsPermutation, apart_from_distinct, IsDistinct-from_apart}
use Rattle.std.proofs.lemmas.List.Elements.{All-get_or}
use Rattle.std.proofs.lemmas.Nat.{mul-le}
use Rattle.std.proofs.lemmas.Bool.Decides.{nat_tests}
use Rattle.std.proofs.lemmas.Bool.{ne_eqb, eqb-false, cases_lt}
use Rattle.vt_screen.specs.declared.size.Size.{Size}
use Rattle.vt_screen.specs.Sizes.{stride, room, IsSize}
use Rattle.vt_screen.specs.Order.{Order, IsOrder, starts, start_of}

-- the start of some row's cells
record IsStart (s : Size) (at : ℕ) : Type 0 where
  number : ℕ
  low : number < s.rows
  is : at ≡ number * stride s

pub start-is : (s : Size) (k : ℕ) (d : ℕ) → k < s.rows → get_or (starts s) k d ≡ k * stride s
start-is s k d low = get_or-map-range_with_len (λ number. number * stride s) 0 s.rows k k d low (omega arith)

pub length-starts : (s : Size) → length (starts s) ≡ s.rows
length-starts s = length-map-range_with_len (λ number. number * stride s) 0 s.rows

-- as many as rows
pub length-order : (o : Order) → IsOrder o → length o.rows ≡ o.size.rows
length-order o h = length_permutation (starts o.size) o.rows h.rows ∙ length-starts o.size

order-start : (o : Order) → IsOrder o → (i : ℕ) → i < o.size.rows → IsStart o.size (get_or o.rows i 0)
order-start o h i low =
    let fits : i < length o.rows = rw (length-order o h) low in
    All-get_or (IsStart o.size) o.rows i 0 fits (All-permutation (IsStart o.size) (starts o.size) o.rows h.rows
    (λ k d within. let below : k < o.size.rows = omega (arith, within, length-starts o.size) in
    record { number = k; low = below; is = start-is o.size k d below }))

-- the rows before one end at or before it
pub next-row : (w a b : ℕ) → a < b → a * w + w ≤ b * w
next-row w a b lt =
    let step : (a + 1) * w ≤ b * w = mul-le (a + 1) w b w (omega arith) (omega arith) in omega (arith, step)

-- the index of a cell fits in two bytes
pub room-fits : (s : Size) → IsSize s → room s ≤ 65025
room-fits s sized = mul-le s.rows (stride s) 255 255 sized.rows.1 sized.columns

-- each at one place
order-apart : (o : Order) → IsOrder o → (i j : ℕ) → i < o.size.rows → j < o.size.rows → i ≢ j
    → get_or o.rows i 0 ≢ get_or o.rows j 0
order-apart o h i j li lj ne =
    let wide : 1 ≤ stride o.size = omega (arith, h.size.narrow, h.size.wide) in
    let first : IsDistinct eqb (starts o.size) =
    IsDistinct-from_apart eqb (starts o.size) (λ a b d ab within.
    let below : b < o.size.rows = omega (arith, within, length-starts o.size) in
    rw (start-is o.size a d (omega arith), start-is o.size b d below)
    (ne_eqb (a * stride o.size) (b * stride o.size) (λ e. omega (arith, next-row (stride o.size) a b ab)))) in
    let now = IsDistinct-IsPermutation eqb (λ x y. grind (arith, nat_tests)) (starts o.size) o.rows h.rows first in
    let long = length-order o h in
    elim (cases_lt i j) [
      | inl lt ↦ eqb-false _ _ (apart_from_distinct eqb o.rows i j 0 now lt (omega arith))
      | inr ge ↦ λ e. eqb-false _ _ (apart_from_distinct eqb o.rows j i 0 now (omega arith) (omega arith)) (sym e)
    ]

pub start-below : (o : Order) → IsOrder o → (r : ℕ) → 1 ≤ r → r ≤ o.size.rows
    → start_of o r + stride o.size ≤ room o.size
start-below o h r r1 r24 =
    let start = order-start o h (r - 1) (omega arith) in
    omega (arith, start.is, next-row (stride o.size) start.number o.size.rows start.low)

-- two rows have no place in common
pub start-apart : (o : Order) → IsOrder o → (r s : ℕ) → 1 ≤ r → r ≤ o.size.rows → 1 ≤ s → s ≤ o.size.rows → r ≢ s
    → (start_of o r + stride o.size ≤ start_of o s) ⊎ (start_of o s + stride o.size ≤ start_of o r)
start-apart o h r s r1 r24 s1 s24 ne =
    let differ = order-apart o h (r - 1) (s - 1) (omega arith) (omega arith) (λ e. ne (omega arith)) in
    let first = order-start o h (r - 1) (omega arith) in
    let second = order-start o h (s - 1) (omega arith) in
    elim (cases_lt first.number second.number) [
      | inl lt ↦ inl (omega (arith, first.is, second.is, next-row (stride o.size) first.number second.number lt))
      | inr ge ↦ elim (cases_lt second.number first.number) [
        | inl lt ↦ inr (omega (arith, first.is, second.is, next-row (stride o.size) second.number first.number lt))
        | inr le ↦
            let same : first.number ≡ second.number = omega arith in
            absurd (differ (first.is ∙ ap (λ n. n * stride o.size) same ∙ sym second.is))
      ]
    ]
