-- A fact of each row of a table, and of what is taken if there is no row, is one of what is looked up.
use Rattle.std.proofs.Common.{◌≡◌, ℕ, Bool, true, false, List, [], ◌∷◌, Some, refl, sym, subst, arith}
use Rattle.std.specs.Prelude.{◌==◌, unwrap_or, if◌then◌else◌}
use Rattle.std.proofs.lemmas.Bool.Decides.{nat_tests}
use Rattle.vt_glyph.specs.LookUp.{look_up}

pub same-numbers : (a b : ℕ) → (a == b) ≡ true → a ≡ b
same-numbers a b is = grind (arith, nat_tests)

unfoldable pub AllRows : {X : Type 0} → (ℕ → X → Type 0) → List (ℕ × X) → Type 0
AllRows holds [] = Unit {0}
AllRows holds (row ∷ rows) = holds row.0 row.1 × AllRows holds rows

module _ {X : Type 0} (holds : ℕ → X → Type 0) where
  pub looked_up-holds : (rows : List (ℕ × X)) (key : ℕ) (otherwise : X) → holds key otherwise → AllRows holds rows
      → holds key (unwrap_or (look_up rows key) otherwise)
  unfolding AllRows
  looked_up-holds [] key otherwise h all = h
  looked_up-holds (row ∷ rows) key otherwise h all =
      go (key == row.0) refl (looked_up-holds rows key otherwise h all.1)
    where
      go : (b : Bool) → (key == row.0) ≡ b → holds key (unwrap_or (look_up rows key) otherwise)
          → holds key (unwrap_or (if b then Some row.1 else look_up rows key) otherwise)
      go true is rest = subst (λ k. holds k row.1) (sym (same-numbers key row.0 is)) all.0
      go false is rest = rest
