-- Bytes by steps, one after another.
use Rattle.std.proofs.Common.{zero, suc, ◌≡◌, ℕ, ◌+◌, ◌-◌, ◌*◌, ◌<◌, ◌≤◌, false, List, [], ◌∷◌, ◌++◌, length, take}
use Rattle.std.proofs.Common.{drop, get_or, Option, refl, ap, append_assoc, append-nil, length-append, length-drop}
use Rattle.std.proofs.Common.{arith}
use Rattle.std.proofs.lemmas.Bool.Decides.{nat_tests}
use Rattle.std.proofs.lemmas.List.{take_more}
use Rattle.std.proofs.Math.Seq.{take-add, take-length}
use Rattle.vt_syntax.specs.declared.held.Held.{Held}
use Rattle.vt_syntax.specs.declared.held.Held.TheVariants.{Control}
use Rattle.vt_syntax.specs.declared.held.Phase.{Phase}
use Rattle.vt_syntax.specs.declared.held.Phase.TheVariants.{Values}
use Rattle.vt_syntax.specs.Class.{class_of}
use Rattle.vt_syntax.specs.Steps.{Step, step_to, step_of, change_last, with_digit, IsEarly, steps}

pub steps_append : (held : Held) (bytes more : List ℕ)
    → steps held (bytes ++ more)
    ≡ step_to (steps (steps held bytes).held more).held
    ((steps held bytes).events ++ (steps (steps held bytes).held more).events)
unfolding steps
steps_append held [] more = refl
steps_append held (b ∷ bytes) more = rw (steps_append (step_of held b).held bytes more, ← append_assoc) refl

pub steps_nil : (held : Held) → steps held [] ≡ step_to held []
unfolding steps
steps_nil held = refl

-- a byte alone
pub steps_one : (held : Held) (b : ℕ) → steps held (b ∷ []) ≡ step_of held b
unfolding steps
steps_one held b = rw append-nil refl

-- steps that are the same leave the same, and ask for the same
pub same_held : {s t : Step} → s ≡ t → s.held ≡ t.held
same_held e = ap (λ (step : Step). step.held) e

pub same_events : {s t : Step} → s ≡ t → s.events ≡ t.events
same_events e = ap (λ (step : Step). step.events) e

-- ---- the front of a piece that asks for nothing

-- and one more byte
pub steps_more : (held now : Held) (piece : List ℕ) (at : ℕ) → at < length piece
    → steps held (take at piece) ≡ step_to now [] → steps held (take (at + 1) piece) ≡ step_of now (get_or piece at 0)
steps_more held now piece at inside so_far =
    rw (take_more piece at 0 inside, steps_append, so_far) (steps_one now (get_or piece at 0))

-- the part of a piece starting at a place, to its end
pub rest_of : (piece : List ℕ) (at : ℕ) → take (length piece - at) (drop at piece) ≡ drop at piece
rest_of piece at = rw (← length-drop at piece) (take-length (drop at piece))

-- more bytes of that part
pub steps_part : (held now : Held) (piece : List ℕ) (at n : ℕ) → steps held (take at piece) ≡ step_to now []
    → steps now (take n (take (length piece - at) (drop at piece))) ≡ step_to now []
    → steps held (take (at + n) piece) ≡ step_to now []
steps_part held now piece at n so_far more =
    rw (take-add at n piece, steps_append, so_far) (rw (rest_of piece at) at more)

-- ---- values

pub change_last-push : (f : ℕ → ℕ) (xs : List ℕ) (x : ℕ) → change_last f (xs ++ x ∷ []) ≡ xs ++ f x ∷ []
change_last-push f [] x = refl
change_last-push f (y ∷ []) x = refl
change_last-push f (y ∷ z ∷ xs) x = ap (λ (t : List ℕ). y ∷ t) (change_last-push f (z ∷ xs) x)

pub length-change_last : (f : ℕ → ℕ) (vs : List ℕ) → length (change_last f vs) ≡ length vs
length-change_last f [] = refl
length-change_last f (x ∷ []) = refl
length-change_last f (x ∷ y ∷ xs) = ap suc (length-change_last f (y ∷ xs))

pub take-change_last : (f : ℕ → ℕ) (n : ℕ) (vs : List ℕ) → n < length vs → take n (change_last f vs) ≡ take n vs
take-change_last f zero vs h = refl
take-change_last f (suc n) [] h = absurd (omega arith)
take-change_last f (suc n) (x ∷ []) h = absurd (omega arith)
take-change_last f (suc n) (x ∷ y ∷ xs) h = ap (λ (t : List ℕ). x ∷ t) (take-change_last f n (y ∷ xs) (omega arith))

pub ruleset last_values = (nat_tests, change_last-push)

-- a digit after any early phase
pub digit_step : (marker : Option ℕ) (xs : List ℕ) (v w : ℕ) (phase : Phase) (b : ℕ) → IsEarly phase → 48 ≤ b → b ≤ 57
    → w ≡ v * 10 + (b - 48) → w ≤ 9999
    → step_of (Control marker (record { items = xs ++ v ∷ [] }) false phase) b
    ≡ step_to (Control marker (record { items = xs ++ w ∷ [] }) false Values) []
unfolding step_of class_of
digit_step marker xs v w phase b early low high is small =
    let changed = change_last-push (with_digit b) xs v in
    let capped : with_digit b v ≡ w = omega arith in
    grind (arith, nat_tests)

pub separator_step : (marker : Option ℕ) (xs : List ℕ) (v : ℕ) (phase : Phase) → IsEarly phase → length xs < 15
    → step_of (Control marker (record { items = xs ++ v ∷ [] }) false phase) 0x3B
    ≡ step_to (Control marker (record { items = (xs ++ v ∷ []) ++ 0 ∷ [] }) false Values) []
unfolding step_of class_of
separator_step marker xs v phase early few =
    let more = length-append xs (v ∷ []) in grind (arith, nat_tests)
