-- The bytes that write a glyph if G0 is ASCII, G2 Supplemental, G3 Special Graphics, GL is G0 and no single shift is
-- pending. (this profile: one spelling a glyph)
use Rattle.std.specs.Prelude.{◌≡◌, ℕ, List, [], ◌∷◌, Option, None, ◌==◌, ◌&&◌, nat_le, if◌then◌else◌, find}
use Rattle.std.specs.Option.{option_map_or}
use Rattle.vt_glyph.specs.declared.set.Set.{Set}
use Rattle.vt_glyph.specs.declared.set.Set.TheVariants.{Ascii, Special, Supplemental}
use Rattle.vt_glyph.specs.declared.glyph.Spelling.{Spelling}
use Rattle.vt_glyph.specs.declared.glyph.Spelling.TheVariants.{Plain, Second, Third}
use Rattle.vt_glyph.specs.Tables.{glyph_of, set_codes, space}
use Rattle.vt_glyph.specs.GraphicSets.{GraphicSets}
use Rattle.vt_glyph.specs.Invocation.{set_at, shifted_once}

-- the first code at which the set shows the glyph
abbrev pub code_in : Set → ℕ → Option ℕ
code_in set n = find (λ code. glyph_of set code == n) set_codes

-- an ASCII glyph is its own byte; another is its first code in Supplemental, or else its code in Special Graphics,
-- after a single shift
unfoldable pub spelling_of : ℕ → Spelling
spelling_of n =
    if nat_le 0x20 n && nat_le n 0x7E then Plain n
    else option_map_or Second (code_in Supplemental n) (option_map_or Third (code_in Special n) (Plain space))

-- the bytes of a spelling: a single shift is `ESC N` or `ESC O` (SS2 and SS3 in their 7-bit form, ECMA-48 5.3)
abbrev pub spelled : Spelling → List ℕ
spelled (Plain code) = code ∷ []
spelled (Second code) = 0x1B ∷ 0x4E ∷ code ∷ []
spelled (Third code) = 0x1B ∷ 0x4F ∷ code ∷ []

-- the glyph that a spelling writes
abbrev pub spelled_glyph : Spelling → ℕ
spelled_glyph (Plain code) = glyph_of Ascii code
spelled_glyph (Second code) = glyph_of Supplemental code
spelled_glyph (Third code) = glyph_of Special code

-- the code of a spelling, after its shift
abbrev pub code_of : Spelling → ℕ
code_of (Plain code) = code
code_of (Second code) = code
code_of (Third code) = code

-- the sets after the single shift of a spelling
abbrev pub shifted_for : Spelling → GraphicSets → GraphicSets
shifted_for (Plain code) sets = sets
shifted_for (Second code) sets = shifted_once 2 sets
shifted_for (Third code) sets = shifted_once 3 sets

-- the sets that the spellings are for
pub record AreSpellingSets (sets : GraphicSets) : Type 0 where
  pub g0 : set_at sets 0 ≡ Ascii
  pub g2 : set_at sets 2 ≡ Supplemental
  pub g3 : set_at sets 3 ≡ Special
  pub left : sets.left ≡ 0
  pub pending : sets.pending ≡ None
