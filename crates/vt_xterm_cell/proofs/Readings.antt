-- SGR reads a number with what belongs to it, and then those after it.
use Rattle.std.proofs.Common.{◌≡◌, ℕ, ◌+◌, ◌-◌, ◌≤◌, Bool, true, false, List, [], ◌∷◌, length, take, drop, slice_index, arith, ap, sym, ◌∙◌, refl}
use Rattle.std.proofs.Common.{ap₂}
use Rattle.std.specs.Prelude.{◌==◌, ◌++◌, None, nat_lt, fold, unwrap_or, if◌then◌else◌}
use Rattle.std.proofs.lemmas.Bool.{eqb-false}
use Rattle.std.proofs.lemmas.Bool.Decides.{nat_tests}
use Rattle.std.proofs.lemmas.List.{take_all, drop-drop, length-drop}
use Rattle.std.proofs.Math.ListN.{drop_of_length-le}
use Rattle.vt_xterm_cell.specs.declared.look.Look.{Look}
use Rattle.vt_xterm_cell.specs.Rendition.{is_long, long_full, changed_by, with_number, long_colour, after_number, rendered}
use Rattle.vt_xterm_cell.specs.Rendition.{Reading, after_parameter, at_end, in_foreground, on_background}

-- ---- a number by itself

short_carried : (p : ℕ) (look : Look) → (p == 38) ≡ false → (p == 48) ≡ false → after_number (p ∷ []) look ≡ with_number p look
unfolding after_number
short_carried p look no38 no48 = rw (no38, no48) refl

abbrev to_end : Reading → List ℕ → Look
to_end r params = at_end (fold after_parameter r params)

abbrev held : List ℕ → Look → Reading
held taken look = record { taken = taken; look = look }

-- a parameter that isn't the last that belongs to a number, or is
abbrev held_if : Bool → List ℕ → Look → Reading
held_if more taken look = if more then held taken look else held [] (after_number taken look)

-- the first number, and a parameter after a number that takes some
number : (long : Bool) (p : ℕ) (look : Look) → is_long p ≡ long → after_parameter (held [] look) p ≡ held_if (nat_lt 1 (if long then 2 else 1)) (p ∷ []) look
number long p look h = ap (λ t. held_if (nat_lt 1 (if t then 2 else 1)) (p ∷ []) look) h

turn : (p : ℕ) (xs : List ℕ) (x : ℕ) (look : Look) → is_long p ≡ true → after_parameter (held (p ∷ xs) look) x
    ≡ held_if (nat_lt (length (p ∷ (xs ++ x ∷ []))) (long_full (slice_index (p ∷ (xs ++ x ∷ [])) 1))) (p ∷ (xs ++ x ∷ [])) look
turn p xs x look h =
    ap (λ t. held_if (nat_lt (length (p ∷ (xs ++ x ∷ []))) (if t then long_full (slice_index (p ∷ (xs ++ x ∷ [])) 1) else 1)) (p ∷ (xs ++ x ∷ [])) look) h

short_first : (p : ℕ) (rest : List ℕ) (look : Look) → is_long p ≡ false
    → rendered (p ∷ rest) look ≡ rendered rest (after_number (p ∷ []) look)
unfolding rendered
short_first p rest look h = ap (λ r. to_end r rest) (number false p look h)

-- ---- a long colour

long_second : (p f : ℕ) (rest : List ℕ) (look : Look) → is_long p ≡ true
    → rendered (p ∷ f ∷ rest) look ≡ to_end (held_if (nat_lt 2 (long_full f)) (p ∷ f ∷ []) look) rest
unfolding rendered
long_second p f rest look h =
    ap (λ r. to_end r (f ∷ rest)) (number true p look h) ∙ ap (λ r. to_end r rest) (turn p [] f look h)

-- those with the form 5, with the form 2, and with another one
indexed : (p : ℕ) (rest : List ℕ) (look : Look) → is_long p ≡ true
    → rendered (drop 3 (p ∷ 5 ∷ rest)) (after_number (p ∷ 5 ∷ rest) look) ≡ rendered (p ∷ 5 ∷ rest) look
unfolding rendered after_number long_colour
indexed p [] look h = sym (long_second p 5 [] look h)
indexed p (a ∷ rest) look h =
    sym (long_second p 5 (a ∷ rest) look h ∙ ap (λ r. to_end r rest) (turn p (5 ∷ []) a look h))

mixed : (p : ℕ) (rest : List ℕ) (look : Look) → is_long p ≡ true
    → rendered (drop 5 (p ∷ 2 ∷ rest)) (after_number (p ∷ 2 ∷ rest) look) ≡ rendered (p ∷ 2 ∷ rest) look
unfolding rendered after_number long_colour
mixed p [] look h = sym (long_second p 2 [] look h)
mixed p (a ∷ []) look h =
    sym (long_second p 2 (a ∷ []) look h ∙ ap (λ r. to_end r []) (turn p (2 ∷ []) a look h))
mixed p (a ∷ b ∷ []) look h =
    sym (long_second p 2 (a ∷ b ∷ []) look h ∙ ap (λ r. to_end r (b ∷ [])) (turn p (2 ∷ []) a look h)
    ∙ ap (λ r. to_end r []) (turn p (2 ∷ a ∷ []) b look h))
mixed p (a ∷ b ∷ c ∷ rest) look h =
    sym (long_second p 2 (a ∷ b ∷ c ∷ rest) look h ∙ ap (λ r. to_end r (b ∷ c ∷ rest)) (turn p (2 ∷ []) a look h)
    ∙ ap (λ r. to_end r (c ∷ rest)) (turn p (2 ∷ a ∷ []) b look h) ∙ ap (λ r. to_end r rest) (turn p (2 ∷ a ∷ b ∷ []) c look h))

formless : (taken : List ℕ) → (slice_index taken 1 == 5) ≡ false → (slice_index taken 1 == 2) ≡ false → long_colour taken ≡ None
unfolding long_colour
formless taken no5 no2 = rw (no5, no2) refl

carried_by : (xs ys : List ℕ) (look : Look) → slice_index xs 0 ≡ slice_index ys 0 → long_colour xs ≡ long_colour ys
    → after_number xs look ≡ after_number ys look
unfolding after_number
carried_by xs ys look first colour =
    ap₂ (λ p o. if p == 38 then in_foreground (unwrap_or o look.foreground) look else (
    if p == 48 then on_background (unwrap_or o look.background) look else with_number p look)) first colour

other : (p f : ℕ) (rest : List ℕ) (look : Look) → is_long p ≡ true → (f == 5) ≡ false → (f == 2) ≡ false
    → rendered (drop 2 (p ∷ f ∷ rest)) (after_number (p ∷ f ∷ rest) look) ≡ rendered (p ∷ f ∷ rest) look
unfolding rendered
other p f rest look h no5 no2 =
    let two : long_full f ≡ 2 = rw (no5, no2) refl in
    let same : after_number (p ∷ f ∷ []) look ≡ after_number (p ∷ f ∷ rest) look =
    carried_by _ _ look refl (formless (p ∷ f ∷ []) no5 no2 ∙ sym (formless (p ∷ f ∷ rest) no5 no2)) in
    sym (long_second p f rest look h ∙ ap (λ n. to_end (held_if (nat_lt 2 n) (p ∷ f ∷ []) look) rest) two
    ∙ ap (λ l. to_end (held [] l) rest) same)

by_form : (b5 b2 : Bool) (p f : ℕ) (rest : List ℕ) (look : Look) → is_long p ≡ true → (f == 5) ≡ b5 → (f == 2) ≡ b2
    → rendered (drop (long_full f) (p ∷ f ∷ rest)) (after_number (p ∷ f ∷ rest) look) ≡ rendered (p ∷ f ∷ rest) look
by_form true b2 p f rest look h is5 is2 =
    let is : f ≡ 5 = grind (arith, nat_tests) in rw is (indexed p rest look h)
by_form false true p f rest look h is5 is2 =
    let is : f ≡ 2 = grind (arith, nat_tests) in rw is (mixed p rest look h)
by_form false false p f rest look h is5 is2 = rw (is5, is2) (other p f rest look h is5 is2)

long_first : (p : ℕ) (rest : List ℕ) (look : Look) → is_long p ≡ true
    → rendered (drop (long_full (slice_index (p ∷ rest) 1)) (p ∷ rest)) (after_number (p ∷ rest) look) ≡ rendered (p ∷ rest) look
unfolding rendered
long_first p [] look h = sym (ap (λ r. to_end r []) (number true p look h))
long_first p (f ∷ rest) look h = by_form (f == 5) (f == 2) p f rest look h refl refl

-- ---- what the code does in a turn

pub long_taken : (xs : List ℕ) (look new : Look) (n : ℕ) → 1 ≤ length xs → is_long (slice_index xs 0) ≡ true
    → n ≡ long_full (slice_index xs 1) → new ≡ after_number xs look → rendered (drop n xs) new ≡ rendered xs look
long_taken [] look new n some h is made = absurd (omega arith)
long_taken (p ∷ rest) look new n some h is made = rw (is, made) (long_first p rest look h)

pub short_taken : (xs : List ℕ) (look new : Look) → 1 ≤ length xs → is_long (slice_index xs 0) ≡ false
    → new ≡ with_number (slice_index xs 0) look → rendered (drop 1 xs) new ≡ rendered xs look
short_taken [] look new some h made = absurd (omega arith)
short_taken (p ∷ rest) look new some h made =
    rw (made, short_first p rest look h, short_carried p look (grind (arith, nat_tests)) (grind (arith, nat_tests))) refl

-- 58 has no effect
underline : (look : Look) → with_number 58 look ≡ look
unfolding with_number changed_by
underline look = refl

underlined : (p : ℕ) → is_long p ≡ true → (p ≡ 38 → ⊥) → (p ≡ 48 → ⊥) → p ≡ 58
underlined p h no38 no48 = grind (arith, nat_tests)

pub neither : (taken : List ℕ) (look : Look) → is_long (slice_index taken 0) ≡ true → (slice_index taken 0 ≡ 38 → ⊥)
    → (slice_index taken 0 ≡ 48 → ⊥) → look ≡ after_number taken look
unfolding after_number
neither taken look h no38 no48 =
    let is : slice_index taken 0 ≡ 58 = underlined (slice_index taken 0) h no38 no48 in
    rw is (sym (underline look))

pub colourless : (b38 b48 : Bool) (taken : List ℕ) (look : Look) → is_long (slice_index taken 0) ≡ true
    → (slice_index taken 0 == 38) ≡ b38 → (slice_index taken 0 == 48) ≡ b48 → long_colour taken ≡ None → look ≡ after_number taken look
unfolding after_number
colourless true b48 taken look h is38 is48 none = rw (is38, none) refl
colourless false true taken look h is38 is48 none = rw (is38, is48, none) refl
colourless false false taken look h is38 is48 none = neither taken look h (eqb-false _ 38 is38) (eqb-false _ 48 is48)

-- ---- the loop

pub goes_on : (xs : List ℕ) (at n : ℕ) (old new whole : Look) → rendered (drop at xs) old ≡ whole
    → rendered (drop n (take (length xs - at) (drop at xs))) new ≡ rendered (take (length xs - at) (drop at xs)) old
    → rendered (drop (at + n) xs) new ≡ whole
goes_on xs at n old new whole so_far turn =
    let all : take (length xs - at) (drop at xs) ≡ drop at xs = take_all (length xs - at) (drop at xs) (omega (arith, length-drop at xs)) in
    sym (ap (λ ys. rendered ys new) (ap (drop n) all ∙ drop-drop n at xs)) ∙ turn ∙ ap (λ ys. rendered ys old) all ∙ so_far

pub finished : (xs : List ℕ) (at : ℕ) (look whole : Look) → length xs ≤ at → rendered (drop at xs) look ≡ whole → look ≡ whole
unfolding rendered
finished xs at look whole past so_far = rw (drop_of_length-le xs past) at so_far
