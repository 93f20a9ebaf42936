-- A byte after the bytes of a character that isn't complete.
use Rattle.std.proofs.Common.{◌≡◌, ℕ, ◌≤◌, Bool, true, false, List, [], ◌∷◌, ◌++◌, length, Option, Some, None, refl, sym, ◌∙◌, arith}
use Rattle.std.specs.Prelude.{slice_index, nat_lt, ◌==◌}
use Rattle.std.proofs.lemmas.Bool.{and_parts}
use Rattle.std.proofs.lemmas.Bool.Decides.{nat_tests}
use Rattle.bstr.specs.Utf8.{decoded, lead_len}
use Rattle.vt_utf8.specs.Decoding.{Read, is_begun, pending_of, given_up, read, read_last, read_first}

-- ---- ESC gives up what was pending

begun : (b : ℕ) (bytes : List ℕ) → pending_of (b ∷ bytes) ≡ b ∷ bytes → is_begun (b ∷ bytes) ≡ true
begun b bytes is = by (is_begun (b ∷ bytes)) refl
  where
    by : (t : Bool) → is_begun (b ∷ bytes) ≡ t → is_begun (b ∷ bytes) ≡ true
    by true e = e
    by false e = let other : [] ≡ b ∷ bytes = sym (rw e refl) ∙ is in absurd (cc other)

lead_few : (b : ℕ) → lead_len b ≤ 4
lead_few b = grind (arith, nat_tests)

-- at most three bytes are pending
few : (bytes : List ℕ) → is_begun bytes ≡ true → length bytes ≤ 3
unfolding is_begun
few bytes h =
    let short : nat_lt (length bytes) (lead_len (slice_index bytes 0)) ≡ true =
    (and_parts ((decoded bytes).size == length bytes) (nat_lt (length bytes) (lead_len (slice_index bytes 0))) h).1 in
    let few = lead_few (slice_index bytes 0) in
    grind (arith, nat_tests)

abbrev escaped : List ℕ → Read
escaped pending = record { characters = given_up pending ++ 0x1B ∷ []; pending = [] }

one : (b : ℕ) → is_begun (b ∷ []) ≡ true → read (b ∷ []) 0x1B ≡ escaped (b ∷ [])
unfolding read is_begun
one b h = grind (arith, nat_tests)

two : (b c : ℕ) → is_begun (b ∷ c ∷ []) ≡ true → read (b ∷ c ∷ []) 0x1B ≡ escaped (b ∷ c ∷ [])
unfolding read is_begun
two b c h = grind (arith, nat_tests)

three : (b c d : ℕ) → is_begun (b ∷ c ∷ d ∷ []) ≡ true → read (b ∷ c ∷ d ∷ []) 0x1B ≡ escaped (b ∷ c ∷ d ∷ [])
unfolding read is_begun
three b c d h = grind (arith, nat_tests)

pub read-escape : (pending : List ℕ) → pending_of pending ≡ pending → read pending 0x1B ≡ escaped pending
unfolding read is_begun
read-escape [] is = refl
read-escape (b ∷ []) is = one b (begun b [] is)
read-escape (b ∷ c ∷ []) is = two b c (begun b (c ∷ []) is)
read-escape (b ∷ c ∷ d ∷ []) is = three b c d (begun b (c ∷ d ∷ []) is)
read-escape (b ∷ c ∷ d ∷ e ∷ bytes) is =
    let short = few (b ∷ c ∷ d ∷ e ∷ bytes) (begun b (c ∷ d ∷ e ∷ bytes) is) in absurd (omega (arith, short))

-- ---- what a byte leaves is pending

abbrev IsPending : List ℕ → Type 0
IsPending bytes = pending_of bytes ≡ bytes

begun-pending : (bytes : List ℕ) → is_begun bytes ≡ true → IsPending bytes
begun-pending [] h = refl
begun-pending (b ∷ bytes) h = rw h refl

first-pending : (b : ℕ) → IsPending (read_first b).pending
first-pending b = by (is_begun (b ∷ [])) refl
  where
    by : (t : Bool) → is_begun (b ∷ []) ≡ t → IsPending (read_first b).pending
    by true h = let is : (read_first b).pending ≡ b ∷ [] = rw h refl in rw is (begun-pending (b ∷ []) h)
    by false h = let is : (read_first b).pending ≡ [] = rw h refl in rw is refl

last-pending : (pending : List ℕ) (b : ℕ) (found : Option ℕ) → IsPending (read_last pending b found).pending
last-pending pending b (Some c) = refl
last-pending pending b None = first-pending b

pub leaves-pending : (pending : List ℕ) (b : ℕ) → IsPending (read pending b).pending
unfolding read
leaves-pending pending b = by (is_begun (pending ++ b ∷ [])) refl
  where
    by : (t : Bool) → is_begun (pending ++ b ∷ []) ≡ t → IsPending (read pending b).pending
    by true h =
        let is : (read pending b).pending ≡ pending ++ b ∷ [] = rw h refl in rw is (begun-pending (pending ++ b ∷ []) h)
    by false h =
        let found : Option ℕ = (decoded (pending ++ b ∷ [])).char in
        let is : (read pending b).pending ≡ (read_last pending b found).pending = rw h refl in
        rw is (last-pending pending b found)
