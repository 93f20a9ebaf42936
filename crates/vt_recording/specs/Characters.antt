-- The bytes of characters in DEC's encoding: those of ASCII and of DEC's supplemental set. (EK-VT220-RM, chapter 2: the charts of the
-- sets. SUB for all other characters is this profile's.)
use Rattle.std.specs.Prelude.{◌≡◌, ℕ, ◌+◌, ◌==◌, List, length, take, map, Bool, true, false, not, cond, nat_lt, Option, Some, None, option_map, unwrap_or, is_some}
use Rattle.std.specs.List.{filter}
use Rattle.vt_glyph.specs.declared.set.Set.TheVariants.{Supplemental}
use Rattle.vt_glyph.specs.Tables.{substitute_glyph}
use Rattle.vt_glyph.specs.Spell.{code_in}

-- the byte that a character has, if it has one: U+2426 is shown in undefined places of the set, and has none
abbrev pub byte_of : ℕ → Option ℕ
byte_of c =
    cond (nat_lt c 0x80) (Some c)
    (cond (c == substitute_glyph) None (option_map (λ code. code + 0x80) (code_in Supplemental c)))

-- the bytes of characters, with SUB for those that have none
abbrev pub bytes_of : List ℕ → List ℕ
bytes_of characters = map (λ c. unwrap_or (byte_of c) 0x1A) characters

-- how many characters have no byte
abbrev pub replaced_in : List ℕ → ℕ
replaced_in characters = length (filter (λ c. not (is_some (byte_of c))) characters)

-- the characters have these bytes, and so many of them have none
pub record AreConverted (characters bytes : List ℕ) (replaced : ℕ) : Type 0 where
  pub bytes_are : bytes ≡ bytes_of characters
  pub replaced_are : replaced ≡ replaced_in characters

-- the first characters or bytes of what was heard, up to a number of them, are these bytes, and so many characters have none
abbrev pub AreWritten : (characters : Bool) → (most : ℕ) → (heard bytes : List ℕ) → (replaced : ℕ) → Type 0
AreWritten true most heard bytes replaced = AreConverted (take most heard) bytes replaced
AreWritten false most heard bytes replaced = (bytes ≡ take most heard) × (replaced ≡ 0)
