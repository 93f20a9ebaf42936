-- A byte after what is pending.
use Rattle.std.proofs.Common.{◌≡◌, ◌≢◌, ℕ, ◌<◌, ◌≤◌, Bool, true, false, List, [], ◌∷◌, ◌++◌, length, Some, None, refl, sym, ◌∙◌}
use Rattle.std.proofs.Common.{arith, eq-eqb}
use Rattle.std.specs.Prelude.{◌==◌, nat_lt, slice_index}
use Rattle.std.proofs.lemmas.Bool.{and_parts}
use Rattle.std.proofs.lemmas.Bool.Decides.{nat_tests}
use Rattle.bstr.specs.Utf8.{decoded, lead_len, replacement}
use Rattle.vt_utf8.specs.Decoding.{is_begun, pending_of, given_up, read, read_first, read_apart}

module _ (bytes : List ℕ) (size : ℕ) (is : size ≡ (decoded bytes).size) where
  pub whole-begun : (lead : ℕ) → size ≡ length bytes → lead ≡ lead_len (slice_index bytes 0)
      → nat_lt (length bytes) lead ≡ is_begun bytes
  unfolding is_begun
  whole-begun lead whole first =
      let e : ((decoded bytes).size == length bytes) ≡ true = eq-eqb _ _ (sym is ∙ whole) in
      rw (e, first) refl

  pub part-begun : size ≢ length bytes → (size == length bytes) ≡ is_begun bytes
  unfolding is_begun
  part-begun part =
      let e : (size == length bytes) ≡ false = grind (arith, nat_tests) in
      let f : ((decoded bytes).size == length bytes) ≡ false = rw (← is) e in
      rw (e, f) refl

lead_few : (b : ℕ) → lead_len b ≤ 4
lead_few b = grind (arith, nat_tests)

-- at most three bytes are pending
pub begun-few : (bytes : List ℕ) → is_begun bytes ≡ true → length bytes ≤ 3
unfolding is_begun
begun-few bytes h =
    let short : nat_lt (length bytes) (lead_len (slice_index bytes 0)) ≡ true =
    (and_parts ((decoded bytes).size == length bytes) (nat_lt (length bytes) (lead_len (slice_index bytes 0))) h).1 in
    let few = lead_few (slice_index bytes 0) in
    let less : length bytes < lead_len (slice_index bytes 0) = grind (arith, nat_tests) in
    omega (arith, less, few)

-- bytes are pending if they are a beginning
pub pending-begun : (bytes : List ℕ) → 1 ≤ length bytes → is_begun bytes ≡ true → bytes ≡ pending_of bytes
pending-begun [] some h = absurd (omega (arith, some))
pending-begun (b ∷ bytes) some h = rw h refl

pub pending-other : (bytes : List ℕ) → is_begun bytes ≡ false → [] ≡ pending_of bytes
pending-other [] h = refl
pending-other (b ∷ bytes) h = rw h refl

pub pending-none : (bytes : List ℕ) → length bytes ≡ 0 → [] ≡ pending_of bytes
pending-none [] h = refl
pending-none (b ∷ bytes) h = absurd (omega (arith, h))

pub pending-long : (bytes : List ℕ) → 3 < length bytes → [] ≡ pending_of bytes
pending-long bytes long = by (is_begun bytes) refl
  where
    by : (b : Bool) → is_begun bytes ≡ b → [] ≡ pending_of bytes
    by true h = let few = begun-few bytes h in absurd (omega (arith, few, long))
    by false h = pending-other bytes h

-- U+FFFD for what was pending
pub lost-none : (pending : List ℕ) → (length pending == 0) ≡ true → [] ≡ given_up pending
lost-none [] h = refl
lost-none (b ∷ pending) h = absurd (grind (arith, nat_tests))

pub lost-some : (pending : List ℕ) → (length pending == 0) ≡ false → replacement ∷ [] ≡ given_up pending
lost-some [] h = absurd (grind (arith, nat_tests))
lost-some (b ∷ pending) h = refl

-- the byte is apart from what was pending
pub record IsReadApart (pending : List ℕ) (b : ℕ) : Type 0 where
  pub told : (lost first : List ℕ) → lost ≡ given_up pending → first ≡ (read_first b).characters
      → lost ++ first ≡ (read pending b).characters
  pub left : (first : List ℕ) → first ≡ (read_first b).pending → first ≡ (read pending b).pending

module _ (pending : List ℕ) (b : ℕ) (all : List ℕ) (are : all ≡ pending ++ b ∷ []) where
  pub when-begun : is_begun all ≡ true → read pending b ≡ record { characters = []; pending = pending ++ b ∷ [] }
  unfolding read
  when-begun h = let e : is_begun (pending ++ b ∷ []) ≡ true = rw are at h in rw e refl

  pub when-whole : (c : ℕ) → is_begun all ≡ false → (decoded all).char ≡ Some c
      → read pending b ≡ record { characters = c ∷ []; pending = [] }
  unfolding read
  when-whole c h found =
      let e : is_begun (pending ++ b ∷ []) ≡ false = rw are at h in
      let f : (decoded (pending ++ b ∷ [])).char ≡ Some c = rw are at found in
      rw (e, f) refl

  when-apart : is_begun all ≡ false → (decoded all).char ≡ None → read pending b ≡ read_apart pending (read_first b)
  unfolding read
  when-apart h none =
      let e : is_begun (pending ++ b ∷ []) ≡ false = rw are at h in
      let f : (decoded (pending ++ b ∷ [])).char ≡ None = rw are at none in
      rw (e, f) refl

  pub when-other : is_begun all ≡ false → (decoded all).char ≡ None → IsReadApart pending b
  when-other h none =
      let apart = when-apart h none in record {
        told = λ lost first is are. rw (apart, is, are) refl;
        left = λ first are. rw apart are;
      }
