-- Events one after another.
use Rattle.std.proofs.Common.{◌≡◌, ◌+◌, ◌≤◌, ◌<◌, ℕ, zero, suc, List, [], ◌∷◌, ◌++◌, arith, refl, sym, ap, subst, ◌∙◌}
use Rattle.std.specs.List.{range_with_len, flat_map}
use Rattle.vt_syntax.specs.declared.event.Event.{Event}
use Rattle.vt_term.specs.State.{Display}
use Rattle.vt_term.specs.Functions.{effect}
use Rattle.vt_term.specs.Play.{after_events}

-- the display after events, opaque to the lemmas that don't look into it
unfoldable pub display_after : Display → List Event → Display
display_after s [] = s
display_after s (e ∷ es) = display_after (effect e s) es

pub display_after-append : (s : Display) (es fs : List Event)
    → display_after s (es ++ fs) ≡ display_after (display_after s es) fs
unfolding display_after
display_after-append s [] fs = refl
display_after-append s (e ∷ es) fs = display_after-append (effect e s) es fs

pub display_after-after_events : (s : Display) (es : List Event) → display_after s es ≡ after_events es s
unfolding display_after
display_after-after_events s [] = refl
display_after-after_events s (e ∷ es) = display_after-after_events (effect e s) es

-- events that make one display of another
pub record Makes (es : List Event) (x y : Display) : Type 0 where
  pub is : display_after x es ≡ y

pub then_makes : {es fs : List Event} {x y z : Display} → Makes es x y → Makes fs y z → Makes (es ++ fs) x z
then_makes {es} {fs} {x} {y} {z} first then =
    record { is = display_after-append x es fs ∙ ap (λ w. display_after w fs) first.is ∙ then.is }

pub one_makes : {e : Event} {x y : Display} → effect e x ≡ y → Makes (e ∷ []) x y
unfolding display_after
one_makes is = record { is = is }

pub none_makes : {x y : Display} → x ≡ y → Makes [] x y
unfolding display_after
none_makes is = record { is = is }

-- events that make one of the displays that a formula gives
pub record MakesSome {A : Type 0} (es : List Event) (x : Display) (f : A → Display) : Type 0 where
  pub some : A
  pub makes : Makes es x (f some)

-- what the events of each number of a range keep, from one number to the next
pub range_leaves : (P : ℕ → Display → Type 0) (f : ℕ → List Event) (n a last : ℕ) → a + n ≡ last
    → ((k : ℕ) (x : Display) → a ≤ k → k < last → P k x → P (k + 1) (display_after x (f k)))
    → (x : Display) → P a x → P last (display_after x (flat_map f (range_with_len a n)))
unfolding display_after
range_leaves P f zero a last e step x p = let same : a ≡ last = omega arith in subst (λ (k : ℕ). P k x) same p
range_leaves P f (suc n) a last e step x p =
    subst (λ (y : Display). P last y) (sym (display_after-append x (f a) (flat_map f (range_with_len (a + 1) n))))
    (range_leaves P f n (a + 1) last (omega arith) (λ k y l u q. step k y (omega arith) u q) (display_after x (f a))
    (step a x (omega arith) (omega arith) p))
