-- The search for a character's code in the supplemental set.
use Rattle.std.proofs.Common.{◌≡◌, ◌+◌, ◌-◌, ◌≤◌, ◌<◌, ◌==◌, ℕ, suc, Bool, true, false, Option, Some, None, cond, find, sym, refl, arith, nat_lt, option_map, inl, inr}
use Rattle.std.proofs.lemmas.Bool.Decides.{eqb_tells}
use Rattle.std.specs.List.{range_with_len}
use Rattle.vt_glyph.specs.declared.set.Set.TheVariants.{Supplemental}
use Rattle.vt_glyph.specs.Tables.{substitute_glyph}
use Rattle.vt_glyph.specs.Spell.{code_in}
use Rattle.vt_recording.specs.Characters.{byte_of}

module _ (test : ℕ → Bool) where
  -- the codes starting at a place: this one, or one of the others
  rest_at : (code : ℕ) (o : Option ℕ) → code < 0x7F → find test (range_with_len code (0x7F - code)) ≡ o
      → cond (test code) (Some code) (find test (range_with_len (code + 1) (0x7F - (code + 1)))) ≡ o
  rest_at code o h e = let next : 0x7F - code ≡ suc (0x7F - (code + 1)) = omega (arith, h) in simp next at e

  pub found_here : (code : ℕ) (o : Option ℕ) → code < 0x7F → find test (range_with_len code (0x7F - code)) ≡ o
      → test code ≡ true → o ≡ Some code
  found_here code o h e is = sym (rw is at (rest_at code o h e))

  pub found_later : (code : ℕ) (o : Option ℕ) → code < 0x7F → find test (range_with_len code (0x7F - code)) ≡ o
      → test code ≡ false → find test (range_with_len (code + 1) (0x7F - (code + 1))) ≡ o
  found_later code o h e is = rw is at (rest_at code o h e)

  pub found_nowhere : (code : ℕ) (o : Option ℕ) → 0x7F ≤ code → find test (range_with_len code (0x7F - code)) ≡ o
      → o ≡ None
  found_nowhere code o h e = let none : 0x7F - code ≡ 0 = omega (arith, h) in sym (rw none at e)

-- two numbers that are the same, or aren't
pub same : (m n : ℕ) → m ≡ n → (m == n) ≡ true
same m n e = elim (eqb_tells m n) [ inl t ↦ t.0 | inr t ↦ absurd (t.1 e) ]

pub differ : (m n : ℕ) → (m ≡ n → ⊥) → (m == n) ≡ false
differ m n e = elim (eqb_tells m n) [ inl t ↦ absurd (e t.1) | inr t ↦ t.0 ]

pub byte_in : (c : ℕ) (o : Option ℕ) → nat_lt c 0x80 ≡ false → (c ≡ substitute_glyph → ⊥)
    → code_in Supplemental c ≡ o → option_map (λ code. code + 0x80) o ≡ byte_of c
byte_in c o big other e = rw (big, differ c substitute_glyph other, e) refl
