-- Numbers that are among those of a table, and values one after another that are looked up in one.
use Rattle.std.proofs.Common.{◌≡◌, ℕ, Bool, true, false, ◌||◌, List, [], ◌∷◌, Option, Some, None, refl, sym, ap, subst, ◌∙◌}
use Rattle.std.proofs.Common.{eqb, inl, inr}
use Rattle.std.specs.Prelude.{if◌then◌else◌, ◌⊎◌, ◌≢◌, fold, unwrap_or, option_map}
use Rattle.std.specs.List.{list_any}
use Rattle.std.proofs.lemmas.Bool.Decides.{eqb_tells}
use Rattle.vt_glyph.specs.LookUp.{look_up, contains}
use Rattle.vt_term.specs.Functions.{numbers_of}
use Rattle.vt_term.proofs.Tables.{AllRows, looked_up-holds, same-numbers}

pub no_some : {X : Type 0} (x : X) → None ≡ Some x → ⊥
no_some x h = cc

pub all_rows : {X : Type 0} (p q : ℕ → X → Type 0) → ((key : ℕ) (x : X) → p key x → q key x) → (rows : List (ℕ × X))
    → AllRows p rows → AllRows q rows
unfolding AllRows
all_rows p q f [] all = tt
all_rows p q f (row ∷ rows) all = (f row.0 row.1 all.0, all_rows p q f rows all.1)

flipped : (a b : ℕ) → eqb a b ≡ eqb b a
flipped a b = go (eqb_tells a b) (eqb_tells b a)
  where
    go : ((eqb a b ≡ true) × (a ≡ b)) ⊎ ((eqb a b ≡ false) × (a ≢ b))
        → ((eqb b a ≡ true) × (b ≡ a)) ⊎ ((eqb b a ≡ false) × (b ≢ a)) → eqb a b ≡ eqb b a
    go (inl x) (inl y) = x.0 ∙ sym y.0
    go (inl x) (inr y) = absurd (y.1 (sym x.1))
    go (inr x) (inl y) = absurd (x.1 (sym y.1))
    go (inr x) (inr y) = x.0 ∙ sym y.0

both_false : (a b : Bool) → (a || b) ≡ false → (a ≡ false) × (b ≡ false)
both_false false b h = (refl, h)
both_false true b h = absurd cc

second_true : (a b : Bool) → a ≡ false → (a || b) ≡ true → b ≡ true
second_true false b is h = h
second_true true b is h = absurd cc

-- another number is looked up in vain
pub absent : {X : Type 0} (rows : List (ℕ × X)) (key : ℕ) → contains (numbers_of rows) key ≡ false
    → look_up rows key ≡ None
absent [] key h = refl
absent (row ∷ rows) key h =
    let two = both_false (eqb row.0 key) (contains (numbers_of rows) key) h in
    let other : eqb key row.0 ≡ false = flipped key row.0 ∙ two.0 in
    ap (λ (b : Bool). if b then Some row.1 else look_up rows key) other ∙ absent rows key two.1

-- what holds of each row holds of that of a number of the table
pub among : {X : Type 0} (holds : ℕ → X → Type 0) (rows : List (ℕ × X)) (key : ℕ) (otherwise : X)
    → contains (numbers_of rows) key ≡ true → AllRows holds rows → holds key (unwrap_or (look_up rows key) otherwise)
unfolding AllRows
among holds [] key otherwise h all = absurd cc
among holds (row ∷ rows) key otherwise h all =
    go (eqb key row.0) refl (λ k. among holds rows key otherwise k all.1)
  where
    go : (b : Bool) → eqb key row.0 ≡ b
        → (contains (numbers_of rows) key ≡ true → holds key (unwrap_or (look_up rows key) otherwise))
        → holds key (unwrap_or (if b then Some row.1 else look_up rows key) otherwise)
    go true is rest = subst (λ k. holds k row.1) (sym (same-numbers key row.0 is)) all.0
    go false is rest =
        rest (second_true (eqb row.0 key) (contains (numbers_of rows) key) (flipped row.0 key ∙ is) h)

-- the entry of a key passes a test: one of the entries does
pub looked_true : {X : Type 0} (test : X → Bool) (rows : List (ℕ × X)) (key : ℕ)
    → unwrap_or (option_map test (look_up rows key)) false ≡ true → list_any (λ row. test row.1) rows ≡ true
looked_true test [] key h = absurd cc
looked_true test (row ∷ rows) key h = go (eqb key row.0) h (λ k. looked_true test rows key k)
  where
    or_right : {b : Bool} (a : Bool) → b ≡ true → (a || b) ≡ true
    or_right true h = refl
    or_right false h = h

    go : (t : Bool) → unwrap_or (option_map test (if t then Some row.1 else look_up rows key)) false ≡ true
        → (unwrap_or (option_map test (look_up rows key)) false ≡ true → list_any (λ row. test row.1) rows ≡ true)
        → (test row.1 || list_any (λ row. test row.1) rows) ≡ true
    go true k rest = rw k refl
    go false k rest = or_right (test row.1) (rest k)

-- ---- values one after another

-- what the table has for each value is carried out; another value does nothing
module _ {A X : Type 0} (rows : List (ℕ × X)) (skip : X) (apply : X → A → A) (idle : (a : A) → apply skip a ≡ a) where
  abbrev step : A → ℕ → A
  step a p = apply (unwrap_or (look_up rows p) skip) a

  pub none_known : (values : List ℕ) (a : A) → list_any (contains (numbers_of rows)) values ≡ false
      → fold step a values ≡ a
  none_known [] a h = refl
  none_known (p ∷ values) a h =
      let two = both_false (contains (numbers_of rows) p) (list_any (contains (numbers_of rows)) values) h in
      let this : step a p ≡ a = ap (λ (o : Option X). apply (unwrap_or o skip) a) (absent rows p two.0) ∙ idle a in
      ap (λ (b : A). fold step b values) this ∙ none_known values a two.1

  -- a test of two values that each row makes true
  module _ (test : A → A → Bool)
      (makes : AllRows (λ key x. (a b : A) → test (apply x a) (apply x b) ≡ true) rows) where
    stays : (p : ℕ) (a b : A) → test a b ≡ true → test (step a p) (step b p) ≡ true
    stays p a b h =
        looked_up-holds (λ key x. test (apply x a) (apply x b) ≡ true) rows p skip
        (ap (λ (c : A). test c (apply skip b)) (idle a) ∙ ap (test a) (idle b) ∙ h)
        (all_rows (λ key x. (a b : A) → test (apply x a) (apply x b) ≡ true)
        (λ key x. test (apply x a) (apply x b) ≡ true) (λ key x f. f a b) rows makes)

    comes : (p : ℕ) (a b : A) → contains (numbers_of rows) p ≡ true → test (step a p) (step b p) ≡ true
    comes p a b h =
        among (λ key x. (a b : A) → test (apply x a) (apply x b) ≡ true) rows p skip h makes a b

    all_stay : (values : List ℕ) (a b : A) → test a b ≡ true → test (fold step a values) (fold step b values) ≡ true
    all_stay [] a b h = h
    all_stay (p ∷ values) a b h = all_stay values (step a p) (step b p) (stays p a b h)

    pub one_known : (values : List ℕ) (a b : A) → list_any (contains (numbers_of rows)) values ≡ true
        → test (fold step a values) (fold step b values) ≡ true
    one_known [] a b h = absurd cc
    one_known (p ∷ values) a b h =
        go (contains (numbers_of rows) p) refl h (λ k. one_known values (step a p) (step b p) k)
      where
        go : (t : Bool) → contains (numbers_of rows) p ≡ t → (t || list_any (contains (numbers_of rows)) values) ≡ true
            → (list_any (contains (numbers_of rows)) values ≡ true
            → test (fold step (step a p) values) (fold step (step b p) values) ≡ true)
            → test (fold step (step a p) values) (fold step (step b p) values) ≡ true
        go true is k rest = all_stay values (step a p) (step b p) (comes p a b is)
        go false is k rest = rest k
