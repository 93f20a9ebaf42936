-- Elements that are appended.
use Rattle.std.proofs.Common.{◌≡◌, ℕ, ◌+◌, ◌<◌, ◌≤◌, List, [], ◌∷◌, ◌++◌, length, take, drop}
use Rattle.std.proofs.Common.{sym, ap, subst, ◌∙◌, append_assoc, append-nil, set}
use Rattle.std.proofs.Math.Seq.{drop-append_seam}
use Rattle.std.proofs.lemmas.List.{take_more_set}
use Rattle.vt_paint.specs.Spoken.{Speaks}
use Rattle.vt_paint.proofs.Speech.{speaks-none, speaks-append, character_speaks}
use Rattle.vt_update.specs.Private.Appended.{Appended}

-- a character more, at a place
pub character_more : (all : List ℕ) (at next b : ℕ) → next ≡ at + 1 → at < length all → 0x20 ≤ b → b ≤ 0x7E
    → Speaks (take at all) → Speaks (take next (set all at b))
character_more all at next b e inside low high h =
    subst Speaks
    (sym (ap (λ n. take n (set all at b)) e ∙ take_more_set all at b inside))
    (speaks-append (take at all) (b ∷ []) h (character_speaks b low high))

-- ---- what is appended to the output

pub appended_none : (xs : List ℕ) → Appended xs xs
appended_none xs = record { sent = []; is_after = sym (append-nil xs); speaks = speaks-none }

pub appended_then : (old mid now : List ℕ) → Appended old mid → Appended mid now → Appended old now
appended_then old mid now a b = record {
  sent = a.sent ++ b.sent;
  is_after = b.is_after ∙ ap (λ (xs : List ℕ). xs ++ b.sent) a.is_after ∙ append_assoc old a.sent b.sent;
  speaks = speaks-append a.sent b.sent a.speaks b.speaks;
}

behind : (old now : List ℕ) (w : Appended old now) → drop (length old) now ≡ w.sent
behind old now w = ap (λ (xs : List ℕ). drop (length old) xs) w.is_after ∙ drop-append_seam old w.sent

pub appended_items : (n : ℕ) (old now : List ℕ) → length old ≡ n → Appended old now → now ≡ old ++ drop n now
appended_items n old now e w =
    w.is_after ∙ ap (λ (xs : List ℕ). old ++ xs) (sym (behind old now w)) ∙ ap (λ n. old ++ drop n now) e

pub appended_speaks : (n : ℕ) (old now : List ℕ) → length old ≡ n → Appended old now → Speaks (drop n now)
appended_speaks n old now e w = subst (λ n. Speaks (drop n now)) e (subst Speaks (sym (behind old now w)) w.speaks)
