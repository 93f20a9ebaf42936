-- The designated sets and the shifts, as contracts see them. (EK-VT220-RM, chapters 2 and 4; ECMA-35)
use Rattle.std.specs.Prelude.{◌≡◌, ℕ, ◌+◌, ◌≤◌, ◌<◌, List, ◌∷◌, map, length, Option, Some, None}
use Rattle.std.specs.Option.{ForSome}
use Rattle.vt_glyph.specs.declared.set.Set.{Set}
use Rattle.vt_glyph.specs.Designation.{final_of}

-- the sets designated as G0 to G3, those that the locking shifts put into GL and GR, and a pending single shift
pub record GraphicSets : Type 0 where
  pub g : List Set
  pub left : ℕ
  pub right : ℕ
  pub pending : Option ℕ

-- there are four sets; GL is one of G0 to G3, GR one of G1 to G3; a single shift is to G2 or G3 (EK-VT220-RM,
-- chapter 4: SCS, the locking shifts and the single shifts)
pub record AreSoundSets (sets : GraphicSets) : Type 0 where
  pub four : length sets.g ≡ 4
  pub left : sets.left < 4
  pub right : (1 ≤ sets.right) × (sets.right < 4)
  pub pending : ForSome sets.pending (λ slot. (2 ≤ slot) × (slot < 4))

-- a pending single shift as a number, 0 if there is none
abbrev pub pending_number : Option ℕ → ℕ
pending_number None = 0
pending_number (Some slot) = slot + 1

-- all parts, as numbers: sets are equal if these are
abbrev pub parts : GraphicSets → List ℕ
parts sets = sets.left ∷ sets.right ∷ pending_number sets.pending ∷ map final_of sets.g
