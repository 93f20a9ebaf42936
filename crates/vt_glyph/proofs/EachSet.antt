-- Facts of each set, computed for all sets at once: no proof has a case for each set.
use Rattle.std.proofs.Common.{◌≡◌, ℕ, Bool, true, ◌||◌, ◌==◌, List, [], ◌∷◌, inl, inr, sym, ap, ◌∙◌}
use Rattle.std.specs.List.{list_all}
use Rattle.std.proofs.lemmas.Bool.{eqb-true}
use denote.Struct.Field.{Field}
use denote.Enum.Declared.{Choice}
use denote.Enum.Bare.{Bare}
use Rattle.vt_glyph.specs.declared.set.Set.{Set}
use Rattle.vt_glyph.specs.contracts.set.Set.{the_parts, the_make, the_eta, as_values}
use Rattle.vt_glyph.specs.Tables.{glyph_of, is_glyph, IsGlyph, set_codes, shows, space}
use Rattle.vt_glyph.proofs.Lists.{either, all_taken}

-- ---- the variants of an enum without fields

-- what a function gives for each variant, in their order
abbrev at_each : {X : Type 0} (parts : List (List Field)) → Bare parts → (Choice parts → X) → List X
at_each [] bare f = []
at_each ([] ∷ parts) bare f = f (inl tt) ∷ at_each parts bare (λ c. f (inr c))
at_each ((field ∷ fields) ∷ parts) bare f = absurd bare

same_at_each : {X : Type 0} (parts : List (List Field)) (bare : Bare parts) (f g : Choice parts → X)
    → at_each parts bare f ≡ at_each parts bare g → (c : Choice parts) → f c ≡ g c
same_at_each [] bare f g e c = absurd c
same_at_each ([] ∷ parts) bare f g e (inl x) = let here : f (inl tt) ≡ g (inl tt) = cc in here
same_at_each ([] ∷ parts) bare f g e (inr c) =
    let rest : at_each parts bare (λ d. f (inr d)) ≡ at_each parts bare (λ d. g (inr d)) = cc in
    same_at_each parts bare (λ d. f (inr d)) (λ d. g (inr d)) rest c
same_at_each ((field ∷ fields) ∷ parts) bare f g e c = absurd bare

-- the first test or one of the others passes
abbrev any_of : Bool → List Bool → Bool
any_of first [] = first
any_of first (test ∷ tests) = first || any_of test tests

one_of_each : (parts : List (List Field)) (bare : Bare parts) (f : Choice parts → Bool) (P : Type 0) (first : Bool)
    → any_of first (at_each parts bare f) ≡ true → (first ≡ true → P) → ((c : Choice parts) → f c ≡ true → P) → P
one_of_each [] bare f P first h here each = here h
one_of_each ([] ∷ parts) bare f P first h here each =
    either P first (any_of (f (inl tt)) (at_each parts bare (λ c. f (inr c)))) h here
    (λ rest. one_of_each parts bare (λ c. f (inr c)) P (f (inl tt)) rest (each (inl tt)) (λ c. each (inr c)))
one_of_each ((field ∷ fields) ∷ parts) bare f P first h here each = absurd bare

-- ---- the sets

abbrev pub each_set : {X : Type 0} → (Set → X) → List X
each_set f = at_each the_parts tt (λ c. f (the_make c))

-- what is the same for all sets, computed, is the same for each
pub same_for : {X : Type 0} (f g : Set → X) → each_set f ≡ each_set g → (set : Set) → f set ≡ g set
same_for f g e set =
    ap f (sym (the_eta set))
    ∙ same_at_each the_parts tt (λ c. f (the_make c)) (λ c. g (the_make c)) e (as_values set)
    ∙ ap g (the_eta set)

abbrev pub EachPasses : (Set → Bool) → Type 0
EachPasses p = each_set p ≡ each_set (λ set. true)

pub passes : (p : Set → Bool) → EachPasses p → (set : Set) → p set ≡ true
passes p = same_for p (λ set. true)

-- ---- the glyphs

-- all that the set shows passes a test
abbrev pub all_shown : (ℕ → Bool) → Set → Bool
all_shown p set = list_all (λ code. p (glyph_of set code)) set_codes

-- a test that the space and all that the sets show pass is passed by every glyph
pub glyph_passes : (p : ℕ → Bool) → p space ≡ true → EachPasses (all_shown p) → (n : ℕ) → IsGlyph n → p n ≡ true
unfolding is_glyph
glyph_passes p blank shown n h =
    one_of_each the_parts tt (λ c. shows (the_make c) n) (p n ≡ true) (n == space) h
    (λ e. ap p (eqb-true n space e) ∙ blank)
    (λ c e. all_taken p (glyph_of (the_make c)) set_codes n (passes (all_shown p) shown (the_make c)) e)
