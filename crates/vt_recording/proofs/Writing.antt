-- One character more among those that are written, bytes more, and the content of an event more.
use Rattle.std.proofs.Common.{◌≡◌, ◌+◌, ◌-◌, ◌≤◌, ◌<◌, ◌++◌, ◌∷◌, ◌∙◌, [], ℕ, List, length, take, Bool, true, false, Some, None, refl, sym, ap, subst, arith, append-nil, append_assoc, length-append, nat_le}
use Rattle.std.proofs.Math.Seq.{take-append-add}
use Rattle.std.proofs.lemmas.List.{length-take, take_all, take-append-le, length-map, map-append}
use Rattle.std.proofs.lemmas.List.Elements.{filter-append}
use Rattle.std.proofs.lemmas.Bool.Decides.{nat_tests}
use Rattle.vt_recording.specs.Characters.{byte_of, AreWritten}
use Rattle.vt_recording.specs.Taken.{heard, all_heard}
use Rattle.vt_recording.specs.Timeline.{Event}

module _ (most : ℕ) (front bytes : List ℕ) (n c : ℕ) (free : length bytes < most) (w : AreWritten true most front bytes n) where
  few : length front < most
  few =
      let taken : length bytes ≡ length (take most front) = rw (w.bytes_are, length-map) refl in
      let size = length-take most front in
      grind (arith, nat_tests, taken, size, free)

  longer : take most (front ++ c ∷ []) ≡ take most front ++ c ∷ []
  longer =
      let more : length (front ++ c ∷ []) ≤ most = rw length-append (omega (arith, few)) in
      rw (take_all most (front ++ c ∷ []) more, take_all most front (omega (arith, few))) refl

  pub pushed_byte : (b : ℕ) → byte_of c ≡ Some b → AreWritten true most (front ++ c ∷ []) (bytes ++ b ∷ []) n
  pushed_byte b is = rw longer (record {
    bytes_are = rw (w.bytes_are, map-append, is) refl;
    replaced_are = rw (w.replaced_are, filter-append, is, length-append) (omega arith);
  })

  pub pushed_sub : byte_of c ≡ None → AreWritten true most (front ++ c ∷ []) (bytes ++ 0x1A ∷ []) (n + 1)
  pushed_sub is = rw longer (record {
    bytes_are = rw (w.bytes_are, map-append, is) refl;
    replaced_are = rw (w.replaced_are, filter-append, is, length-append) refl;
  })

-- all that is wanted is written
pub pushed_none : (most : ℕ) (front bytes : List ℕ) (n c : ℕ) → most ≤ length bytes → AreWritten true most front bytes n
    → AreWritten true most (front ++ c ∷ []) bytes n
pushed_none most front bytes n c full w =
    let taken : length bytes ≡ length (take most front) = rw (w.bytes_are, length-map) refl in
    let size = length-take most front in
    let enough : most ≤ length front = grind (arith, nat_tests, taken, size, full) in
    rw (take-append-le most front (c ∷ []) enough) w

-- ---- bytes

-- the front of two lists, by whether the first one has so many
take_two : (n : ℕ) (xs ys : List ℕ) (is : Bool) → nat_le n (length xs) ≡ is
    → take n (xs ++ ys) ≡ take n xs ++ take (n - length (take n xs)) ys
take_two n xs ys true is =
    let small : n ≤ length xs = grind (arith, nat_tests, is) in
    let taken = length-take n xs in
    let none : n - length (take n xs) ≡ 0 = grind (arith, taken, small) in
    rw (none, append-nil) (take-append-le n xs ys small)
take_two n xs ys false is =
    let large : length xs ≤ n = grind (arith, nat_tests, is) in
    let all : take n xs ≡ xs = take_all n xs large in
    let parts : n ≡ length xs + (n - length xs) = omega (arith, large) in
    rw all (ap (λ k. take k (xs ++ ys)) parts ∙ take-append-add xs ys (n - length xs))

pub pushed_bytes : (most : ℕ) (front bytes text more : List ℕ) (n m : ℕ) → AreWritten false most front bytes n
    → more ≡ bytes ++ take (most - length bytes) text → m ≡ n
    → AreWritten false most (front ++ text) more m
pushed_bytes most front bytes text more n m w e same =
    (e ∙ ap (λ (l : List ℕ). l ++ take (most - length l) text) w.0 ∙ sym (take_two most front text _ refl), same ∙ w.1)

-- ---- the events before a place

-- these bytes are of the events before the rest
pub record IsWritten (characters : Bool) (most : ℕ) (whole rest bytes : List ℕ) (replaced : ℕ) : Type 0 where
  pub front : List ℕ
  pub ahead : front ++ rest ≡ whole
  pub written : AreWritten characters most front bytes replaced

pub event_written : (characters : Bool) (most : ℕ) (whole bytes more : List ℕ) (n m : ℕ) (e : Event) (here rest : List Event)
    → here ≡ e ∷ rest → IsWritten characters most whole (all_heard characters here) bytes n
    → ((front : List ℕ) → AreWritten characters most front bytes n
    → AreWritten characters most (front ++ heard characters e.kind e.text) more m)
    → IsWritten characters most whole (all_heard characters rest) more m
event_written characters most whole bytes more n m e here rest is_next w add = record {
  front = w.front ++ heard characters e.kind e.text;
  ahead =
      append_assoc w.front (heard characters e.kind e.text) (all_heard characters rest)
      ∙ ap (λ (l : List Event). w.front ++ all_heard characters l) (sym is_next) ∙ w.ahead;
  written = add w.front w.written;
}

pub none_written : (characters : Bool) (most : ℕ) (whole bytes : List ℕ) (n : ℕ) (here : List Event) → here ≡ []
    → IsWritten characters most whole (all_heard characters here) bytes n → AreWritten characters most whole bytes n
none_written characters most whole bytes n here none w =
    let all : w.front ≡ whole =
    sym (append-nil w.front) ∙ ap (λ (l : List Event). w.front ++ all_heard characters l) (sym none) ∙ w.ahead in
    subst (λ (l : List ℕ). AreWritten characters most l bytes n) all w.written
