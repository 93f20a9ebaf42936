-- Areas that are changed in turn.
use Rattle.std.proofs.Common.{◌≡◌, ℕ, ◌≤◌, ◌+◌, ◌*◌, Bool, true, false, ◌&&◌, ◌||◌, if◌then◌else◌, length, refl, ap, ◌∙◌, arith, inl, inr}
use Rattle.std.proofs.lemmas.Bool.Decides.{nat_tests, eqb_tells}
use Rattle.std.specs.Prelude.{nat_lt}
use Rattle.vt_screen.specs.Grid.{GridOf, at_or, changed_any, span_of, columns_of}
use Rattle.vt_screen.proofs.Places.{grid_of-same, grid_of-cell_at, cell_at-grid_of}

-- areas of the same places are one area
pub changed-same : {C : Type 0} (z : C) (f : C → C) (g : GridOf C) (a b : ℕ → ℕ → Bool)
    → ((r c : ℕ) → 1 ≤ r → r ≤ g.size.rows → 1 ≤ c → c ≤ g.width → a r c ≡ b r c)
    → changed_any z f g a ≡ changed_any z f g b
changed-same {C = C} z f g a b same =
    grid_of-same g.size g.width _ _ (λ r c r1 r24 c1 cw. rw (same r c r1 r24 c1 cw) refl)

-- an area of no place
pub changed-none : {C : Type 0} (z : C) (f : C → C) (g : GridOf C) (a : ℕ → ℕ → Bool) → length g.cells ≡ g.size.rows * g.width
    → ((r c : ℕ) → 1 ≤ r → r ≤ g.size.rows → 1 ≤ c → c ≤ g.width → a r c ≡ false) → changed_any z f g a ≡ g
changed-none {C = C} z f g a long none = changed-same z f g a (λ r c. false) none ∙ grid_of-cell_at z g long

-- no place is in both, and a place is in the third one if it is in one of them
pub record Joins (x y z : Bool) : Type 0 where
  pub apart : x ≡ true → y ≡ false
  pub joined : (x || y) ≡ z

changed-twice : {C : Type 0} (x y both : Bool) (f : C → C) (cell : C) → Joins x y both
    → (if y then f (if x then f cell else cell) else (if x then f cell else cell)) ≡ (if both then f cell else cell)
changed-twice {C = C} true y both f cell j = rw (← j.joined, j.apart refl) refl
changed-twice {C = C} false y both f cell j = rw (← j.joined) refl

pub changed-more : {C : Type 0} (z : C) (f : C → C) (g : GridOf C) (a b both : ℕ → ℕ → Bool)
    → ((r c : ℕ) → 1 ≤ r → r ≤ g.size.rows → 1 ≤ c → c ≤ g.width → Joins (a r c) (b r c) (both r c))
    → changed_any z f (changed_any z f g a) b ≡ changed_any z f g both
changed-more {C = C} z f g a b both joins = grid_of-same g.size g.width _ _ (λ r c r1 r24 c1 cw.
    let here = cell_at-grid_of z g.size g.width (λ r c. if a r c then f (at_or z g r c) else at_or z g r c) r c r1 r24 c1 cw in
    ap (λ x. if b r c then f x else x) here
    ∙ changed-twice (a r c) (b r c) (both r c) f (at_or z g r c) (joins r c r1 r24 c1 cw))

-- a row more of a span
pub span-more : (row col to_row to_col each from to width r c : ℕ) → row ≤ each → each ≤ to_row
    → (each ≡ row → from ≡ col) × ((each ≡ row → ⊥) → from ≡ 1)
    → (each ≡ to_row → to ≡ to_col) × ((each ≡ to_row → ⊥) → to ≡ width)
    → 1 ≤ c → c ≤ width
    → Joins (span_of row col to_row to_col r c && nat_lt r each) (columns_of each from to r c)
    (span_of row col to_row to_col r c && nat_lt r (each + 1))
span-more row col to_row to_col each from to width r c low high first last c1 cw = record {
  apart = λ h. grind (arith, nat_tests, h);
  joined = elim (eqb_tells each row) [
    | inl e ↦ elim (eqb_tells each to_row) [
      | inl f ↦ grind (arith, nat_tests, e.1, f.1, first.0 e.1, last.0 f.1)
      | inr f ↦ grind (arith, nat_tests, e.1, f.1, first.0 e.1, last.1 f.1)
    ]
    | inr e ↦ elim (eqb_tells each to_row) [
      | inl f ↦ grind (arith, nat_tests, e.1, f.1, first.1 e.1, last.0 f.1)
      | inr f ↦ grind (arith, nat_tests, e.1, f.1, first.1 e.1, last.1 f.1)
    ]
  ];
}
