-- ESC after a pending part: the part is given up, and ESC is read.
use Rattle.std.proofs.Common.{◌≡◌, ℕ, ◌<◌, ◌≤◌, Bool, true, false, List, [], ◌∷◌, ◌++◌, length, All, refl, sym, ap, ◌∙◌, arith}
use Rattle.std.proofs.Common.{append_assoc}
use Rattle.std.specs.Prelude.{nat_lt, ◌==◌, slice_index}
use Rattle.std.proofs.lemmas.Bool.{and_parts}
use Rattle.std.proofs.lemmas.Bool.Decides.{nat_tests}
use Rattle.bstr.specs.Utf8.{decoded, lead_len}
use Rattle.vt_utf8.specs.Decoding.{Read, is_begun, pending_of, given_up, read, characters, pending_after}
use Rattle.vt_utf8.proofs.Cuts.{ascii-characters, ascii-pending}

not-cons : (b : ℕ) (bytes : List ℕ) → [] ≡ b ∷ bytes → true ≡ false
not-cons b bytes is = absurd (cc is)

begun : (b : ℕ) (bytes : List ℕ) → pending_of (b ∷ bytes) ≡ b ∷ bytes → is_begun (b ∷ bytes) ≡ true
begun b bytes is = by (is_begun (b ∷ bytes)) refl
  where
    by : (t : Bool) → is_begun (b ∷ bytes) ≡ t → is_begun (b ∷ bytes) ≡ true
    by true e = e
    by false e = let other : [] ≡ b ∷ bytes = sym (rw e refl) ∙ is in absurd (cc other)

-- what ESC after the part leaves
abbrev escaped : List ℕ → Read
escaped part = record { characters = given_up part ++ 0x1B ∷ []; pending = [] }

one : (b : ℕ) → is_begun (b ∷ []) ≡ true → read (b ∷ []) 0x1B ≡ escaped (b ∷ [])
unfolding read is_begun
one b h = grind (arith, nat_tests)

two : (b c : ℕ) → is_begun (b ∷ c ∷ []) ≡ true → read (b ∷ c ∷ []) 0x1B ≡ escaped (b ∷ c ∷ [])
unfolding read is_begun
two b c h = grind (arith, nat_tests)

three : (b c d : ℕ) → is_begun (b ∷ c ∷ d ∷ []) ≡ true → read (b ∷ c ∷ d ∷ []) 0x1B ≡ escaped (b ∷ c ∷ d ∷ [])
unfolding read is_begun
three b c d h = grind (arith, nat_tests)

lead_few : (b : ℕ) → lead_len b ≤ 4
lead_few b = grind (arith, nat_tests)

-- at most three bytes are pending
few : (bytes : List ℕ) → is_begun bytes ≡ true → length bytes ≤ 3
unfolding is_begun
few bytes h =
    let short : nat_lt (length bytes) (lead_len (slice_index bytes 0)) ≡ true =
    (and_parts ((decoded bytes).size == length bytes) (nat_lt (length bytes) (lead_len (slice_index bytes 0))) h).1 in
    let few = lead_few (slice_index bytes 0) in
    let less : length bytes < lead_len (slice_index bytes 0) = grind (arith, nat_tests) in
    omega (arith, less, few)

read-escape : (part : List ℕ) → pending_of part ≡ part → read part 0x1B ≡ escaped part
unfolding read is_begun
read-escape [] is = refl
read-escape (b ∷ []) is = one b (begun b [] is)
read-escape (b ∷ c ∷ []) is = two b c (begun b (c ∷ []) is)
read-escape (b ∷ c ∷ d ∷ []) is = three b c d (begun b (c ∷ d ∷ []) is)
read-escape (b ∷ c ∷ d ∷ e ∷ bytes) is =
    let short = few (b ∷ c ∷ d ∷ e ∷ bytes) (begun b (c ∷ d ∷ e ∷ bytes) is) in absurd (omega (arith, short))

module _ (part more : List ℕ) (is : pending_of part ≡ part) (ascii : All (λ b. b < 0x80) more) where
  pub escape-characters : characters part (0x1B ∷ more) ≡ given_up part ++ 0x1B ∷ more
  escape-characters =
      ap (λ (r : Read). r.characters ++ characters r.pending more) (read-escape part is)
      ∙ append_assoc (given_up part) (0x1B ∷ []) (characters [] more)
      ∙ ap (λ (t : List ℕ). given_up part ++ 0x1B ∷ t) (ascii-characters more ascii)

  pub escape-pending : pending_after part (0x1B ∷ more) ≡ []
  escape-pending = ap (λ (r : Read). pending_after r.pending more) (read-escape part is) ∙ ascii-pending more ascii

-- ---- a pending part is read as such

read-begun : (part : List ℕ) (b : ℕ) → is_begun (part ++ b ∷ []) ≡ true
    → read part b ≡ record { characters = []; pending = part ++ b ∷ [] }
unfolding read
read-begun part b h = rw h refl

begun-two : (b c : ℕ) → is_begun (b ∷ c ∷ []) ≡ true → is_begun (b ∷ []) ≡ true
unfolding is_begun
begun-two b c h = grind (arith, nat_tests)

begun-three : (b c d : ℕ) → is_begun (b ∷ c ∷ d ∷ []) ≡ true → is_begun (b ∷ c ∷ []) ≡ true
unfolding is_begun
begun-three b c d h = grind (arith, nat_tests)

pub part-read : (part : List ℕ) → pending_of part ≡ part → (characters [] part ≡ []) × (pending_after [] part ≡ part)
part-read [] is = (refl, refl)
part-read (b ∷ []) is =
    let first = read-begun [] b (begun b [] is) in (rw first refl, ap (λ (r : Read). r.pending) first)
part-read (b ∷ c ∷ []) is =
    let h = begun b (c ∷ []) is in
    let first = read-begun [] b (begun-two b c h) in
    let second = read-begun (b ∷ []) c h in
    (rw (first, second) refl, ap (λ (r : Read). pending_after r.pending (c ∷ [])) first ∙ ap (λ (r : Read). r.pending) second)
part-read (b ∷ c ∷ d ∷ []) is =
    let h = begun b (c ∷ d ∷ []) is in
    let two = begun-three b c d h in
    let first = read-begun [] b (begun-two b c two) in
    let second = read-begun (b ∷ []) c two in
    let third = read-begun (b ∷ c ∷ []) d h in (
      rw (first, second, third) refl,
      ap (λ (r : Read). pending_after r.pending (c ∷ d ∷ [])) first
          ∙ ap (λ (r : Read). pending_after r.pending (d ∷ [])) second ∙ ap (λ (r : Read). r.pending) third,
    )
part-read (b ∷ c ∷ d ∷ e ∷ bytes) is =
    let short = few (b ∷ c ∷ d ∷ e ∷ bytes) (begun b (c ∷ d ∷ e ∷ bytes) is) in absurd (omega (arith, short))
