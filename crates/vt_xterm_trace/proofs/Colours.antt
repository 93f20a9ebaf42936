-- The attributes among values, without those of colours.
use Rattle.std.proofs.Common.{◌≡◌, ℕ, zero, suc, ◌+◌, ◌-◌, ◌<◌, Bool, true, false, List, [], ◌∷◌, drop, length, get_or, refl, arith}
use Rattle.std.proofs.lemmas.List.{drop_more}
use Rattle.std.specs.List.{list_any}
use Rattle.vt_glyph.specs.LookUp.{contains}
use Rattle.vt_term.specs.Rendition.{rendition_changes}
use Rattle.vt_term.specs.Functions.{numbers_of}
use Rattle.vt_xterm.specs.Attributes.{begins_colour, colour_length, without_colours}

-- whether one is left, after so many values of a colour
abbrev pub any_left : ℕ → List ℕ → Bool
any_left n values = list_any (contains (numbers_of rendition_changes)) (without_colours n values)

skipped-one : (n p : ℕ) (values : List ℕ) → 0 < n → any_left n (p ∷ values) ≡ any_left (n - 1) values
skipped-one zero p values some = absurd (omega (arith, some))
skipped-one (suc n) p values some = let e : suc n - 1 ≡ n = omega arith in rw e refl

pub any-skipped : (n at : ℕ) (values : List ℕ) → 0 < n → at < length values
    → any_left n (drop at values) ≡ any_left (n - 1) (drop (at + 1) values)
any-skipped n at values some inside =
    rw (drop_more values at 0 inside, skipped-one n (get_or values at 0) (drop (at + 1) values) some) refl

pub any-colour : (at : ℕ) (values : List ℕ) → at < length values → begins_colour (get_or values at 0) ≡ true
    → any_left 0 (drop at values) ≡ any_left (colour_length (drop (at + 1) values)) (drop (at + 1) values)
any-colour at values inside is = rw (drop_more values at 0 inside, is) refl

pub any-own : (at : ℕ) (values : List ℕ) → at < length values → begins_colour (get_or values at 0) ≡ false
    → contains (numbers_of rendition_changes) (get_or values at 0) ≡ false
    → any_left 0 (drop at values) ≡ any_left 0 (drop (at + 1) values)
any-own at values inside is other = rw (drop_more values at 0 inside, is, other) refl

pub any-found : (at : ℕ) (values : List ℕ) → at < length values → begins_colour (get_or values at 0) ≡ false
    → contains (numbers_of rendition_changes) (get_or values at 0) ≡ true → any_left 0 (drop at values) ≡ true
any-found at values inside is found = rw (drop_more values at 0 inside, is, found) refl

pub any-none : (n : ℕ) → any_left n [] ≡ false
any-none zero = refl
any-none (suc n) = refl
