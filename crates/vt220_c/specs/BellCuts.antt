-- The bells of bytes in parts, and of a character. Private contracts and the observer of bells cite this, and no public clause does.
use Rattle.std.specs.Prelude.{◌≡◌, ℕ, ◌+◌, ◌≤◌, ◌++◌, ◌∷◌, List, [], length, count_by, cond, Option, None, Some, nat_lt, if◌then◌else◌}
use Rattle.std.proofs.Common.{ap, ◌∙◌, arith, length-append}
use Rattle.std.proofs.lemmas.List.Sums.{sum_by-append}
use Rattle.std.proofs.lemmas.Grind.{flat_map-append}
use Rattle.vt_syntax.specs.declared.event.Event.{Event}
use Rattle.vt_syntax.specs.declared.held.Held.{Held}
use Rattle.vt_syntax.specs.Event.{is_control}
use Rattle.vt_syntax.specs.Held.{events_from, held_from, IsHeldPart}
use Rattle.vt_syntax.specs.Laws.{SplitLaw}
use Rattle.vt_term.specs.Happenings.{Happening, events_in}
use Rattle.vt_term.specs.Observing.{AreJoined}
use Rattle.vt220_c.specs.Bells.{bells}

-- a count after the bells of happenings; a byte rings at most once
pub record Rang (hs : List Happening) (before after : ℕ) : Type 0 where
  pub count : after ≡ before + count_by (is_control 0x07) (events_in hs)
  pub few : after ≤ before + length hs

-- an ASCII character rings as its byte does, and no other character rings
abbrev pub rung_by_character : Held → Option ℕ → ℕ
rung_by_character held None = 0
rung_by_character held (Some c) = if nat_lt c 0x80 then bells held (c ∷ []) else 0

pub bells-append : SplitLaw → (held : Held) (first second : List ℕ)
    → bells held (first ++ second) ≡ bells held first + bells (held_from held first) second
bells-append law held first second =
    ap (λ (events : List Event). count_by (is_control 7) events) (law.events_append held first second)
    ∙ sum_by-append (λ (event : Event). cond (is_control 7 event) 1 0) (events_from held first)
    (events_from (held_from held first) second)

pub bells-nil : SplitLaw → (held : Held) → IsHeldPart held → bells held [] ≡ 0
bells-nil law held is = ap (λ (events : List Event). count_by (is_control 7) events) (law.events_nil held is)

rung-append : (hs ks : List Happening) → count_by (is_control 0x07) (events_in (hs ++ ks))
    ≡ count_by (is_control 0x07) (events_in hs) + count_by (is_control 0x07) (events_in ks)
rung-append hs ks =
    ap (λ (events : List Event). count_by (is_control 0x07) events) (flat_map-append (λ h. h.events) hs ks)
    ∙ sum_by-append (λ (event : Event). cond (is_control 0x07 event) 1 0) (events_in hs) (events_in ks)

rang-more : (hs ks : List Happening) (m n r : ℕ) → Rang hs m n → Rang ks n r → Rang (hs ++ ks) m r
rang-more hs ks m n r first second = record {
  count = omega (arith, first.count, second.count, rung-append hs ks);
  few = omega (arith, first.few, second.few, length-append hs ks);
}

pub bells_joined : {O : Type 0} (count : O → ℕ) → AreJoined {O = O} (λ o hs p. Rang hs (count o) (count p))
    (λ o n. count o + n ≤ 0xFFFFFFFFFFFFFFFF)
bells_joined count = record {
  nothing = λ o. record { count = omega arith; few = omega arith };
  more = λ o p q xs ys first second. rang-more xs ys (count o) (count p) (count q) first second;
  fewer = λ o m n few takes. omega (arith, few, takes);
  left = λ o p hs n saw takes. omega (arith, saw.few, takes);
}
