-- SGR without its colours, parameter by parameter.
use Rattle.std.proofs.Common.{◌≡◌, ℕ, zero, suc, ◌+◌, ◌-◌, ◌<◌, Bool, true, false, List, [], ◌∷◌, drop, length, get_or, refl, ap, arith}
use Rattle.std.specs.Prelude.{◌||◌}
use Rattle.std.proofs.lemmas.List.{drop_more}
use Rattle.std.specs.List.{list_any}
use Rattle.vt_term.specs.State.{State}
use Rattle.vt_term.specs.Rendition.{select_graphic_rendition}
use Rattle.vt_xterm.specs.Attributes.{begins_colour, colour_length, without_colours}

-- what is left of the parameters, after so many of a colour
abbrev pub left : ℕ → List ℕ → State → State
left n params s = record s { display = select_graphic_rendition (without_colours n params) s.display }

skipped-one : (n p : ℕ) (params : List ℕ) → 0 < n → without_colours n (p ∷ params) ≡ without_colours (n - 1) params
skipped-one zero p params some = absurd (omega (arith, some))
skipped-one (suc n) p params some = let e : suc n - 1 ≡ n = omega arith in rw e refl

pub left-skipped : (n at : ℕ) (params : List ℕ) (s : State) → 0 < n → at < length params
    → left n (drop at params) s ≡ left (n - 1) (drop (at + 1) params) s
left-skipped n at params s some inside =
    rw (drop_more params at 0 inside, skipped-one n (get_or params at 0) (drop (at + 1) params) some) refl

pub left-colour : (at : ℕ) (params : List ℕ) (s : State) → at < length params
    → begins_colour (get_or params at 0) ≡ true
    → left 0 (drop at params) s ≡ left (colour_length (drop (at + 1) params)) (drop (at + 1) params) s
left-colour at params s inside is = rw (drop_more params at 0 inside, is) refl

pub left-own : (at : ℕ) (params : List ℕ) (s : State) → at < length params
    → begins_colour (get_or params at 0) ≡ false
    → left 0 (drop at params) s ≡ left 0 (drop (at + 1) params)
    (record s { display = select_graphic_rendition (get_or params at 0 ∷ []) s.display })
left-own at params s inside is = rw (drop_more params at 0 inside, is) refl

pub left-none : (n : ℕ) (s : State) → left n [] s ≡ s
left-none zero s = refl
left-none (suc n) s = refl

-- parameters without a colour are all left
pub without-colours : (params : List ℕ) → list_any begins_colour params ≡ false → without_colours 0 params ≡ params
without-colours [] none = refl
without-colours (p ∷ params) none = by (begins_colour p) refl none (without-colours params)
  where
    by : (b : Bool) → begins_colour p ≡ b → b || list_any begins_colour params ≡ false
        → (list_any begins_colour params ≡ false → without_colours 0 params ≡ params)
        → without_colours 0 (p ∷ params) ≡ p ∷ params
    by true is none rest = absurd cc
    by false is none rest = rw is (ap (λ (ps : List ℕ). p ∷ ps) (rest none))
