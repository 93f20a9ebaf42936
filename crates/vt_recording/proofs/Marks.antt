-- The bytes of a mark among those of all marks, joined.
use Rattle.std.proofs.Common.{◌≡◌, ◌+◌, ◌-◌, ◌≤◌, ◌∷◌, ◌∙◌, [], ℕ, zero, suc, List, length, take, drop, min, Bool, true, false, refl, sym, ap, arith, length-drop, nat_le}
use Rattle.std.proofs.lemmas.List.{drop_all, drop-drop, take_all, length-take}
use Rattle.std.proofs.lemmas.Bool.Decides.{nat_tests}
use Rattle.vt_recording.specs.declared.timeline.Event.{Event}
use Rattle.vt_recording.specs.Gathered.{events_of}
use Rattle.vt_recording.specs.Timeline as timeline

-- the event of a mark and its bytes
abbrev pub event : Event → List ℕ → timeline.Event
event m text = record { micros = m.micros; kind = m.kind; text = text }

-- the bytes of a mark, of which there may be fewer
front : (n at : ℕ) (text : List ℕ) (is : Bool) → nat_le n (length text - at) ≡ is → at ≤ length text
    → take (min n (length text - at)) (drop at text) ≡ take n (drop at text)
front n at text true is within =
    let same : min n (length text - at) ≡ n = grind (arith, nat_tests, is) in
    rw same refl
front n at text false is within =
    let same : min n (length text - at) ≡ length text - at = grind (arith, nat_tests, is) in
    let more : length text - at ≤ n = grind (arith, nat_tests, is) in
    rw (same, take_all (length text - at) (drop at text) (rw length-drop (omega arith)), take_all n (drop at text) (rw length-drop more)) refl

rest : (n at : ℕ) (text : List ℕ) (is : Bool) → nat_le n (length text - at) ≡ is → at ≤ length text
    → drop (at + min n (length text - at)) text ≡ drop n (drop at text)
rest n at text true is within =
    let same : min n (length text - at) ≡ n = grind (arith, nat_tests, is) in
    rw same (sym (drop-drop n at text))
rest n at text false is within =
    let same : min n (length text - at) ≡ length text - at = grind (arith, nat_tests, is) in
    let more : length text - at ≤ n = grind (arith, nat_tests, is) in
    rw (same, drop_all (at + (length text - at)) text (omega (arith, within)), drop_all n (drop at text) (rw length-drop more)) refl

pub still_within : (n at : ℕ) (text : List ℕ) → at ≤ length text → at + min n (length text - at) ≤ length text
still_within n at text within = grind (arith, nat_tests, within)

-- bytes of the content are within those of the marks
pub still_counted : (n at content then : ℕ) (text bytes : List ℕ) → at ≤ length text → content ≤ at
    → bytes ≡ take ((at + min n (length text - at)) - at) (drop at text) → then ≤ content + length bytes
    → then ≤ at + min n (length text - at)
still_counted n at content then text bytes within counted e small =
    let size : (at + min n (length text - at)) - at ≡ min n (length text - at) = omega arith in
    let few : length bytes ≤ min n (length text - at) =
    rw (e, size, length-take) (grind (arith, nat_tests)) in
    omega (arith, few, small, counted)

-- the event of a mark and those after it
pub at_mark : (i at end : ℕ) (m : Event) (marks : List Event) (text : List ℕ) → at ≤ length text
    → drop i marks ≡ m ∷ drop (i + 1) marks → end ≡ at + min m.length (length text - at)
    → events_of (drop i marks) (drop at text)
    ≡ event m (take (end - at) (drop at text)) ∷ events_of (drop (i + 1) marks) (drop end text)
unfolding events_of
at_mark i at end m marks text within mark e =
    let size : end - at ≡ min m.length (length text - at) = omega (arith, e) in
    ap (λ (l : List Event). events_of l (drop at text)) mark
    ∙ (rw (size, e, front m.length at text _ refl within, rest m.length at text _ refl within) refl)

pub none_left : (i : ℕ) (marks : List Event) (text : List ℕ) → length marks ≤ i → events_of (drop i marks) text ≡ []
unfolding events_of
none_left i marks text h = ap (λ (l : List Event). events_of l text) (drop_all i marks h)

-- the events of the first marks are the first events
pub first_events : (n : ℕ) (marks : List Event) (text : List ℕ) → events_of (take n marks) text ≡ take n (events_of marks text)
unfolding events_of
first_events zero marks text = refl
first_events (suc n) [] text = refl
first_events (suc n) (m ∷ marks) text =
    ap (λ (l : List timeline.Event). event m (take m.length text) ∷ l) (first_events n marks (drop m.length text))
