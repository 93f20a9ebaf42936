-- The final bytes that designate sets. (EK-VT220-RM, chapter 4: SCS; ECMA-35 14. This profile: British and German are
-- designated as any other set is, whatever modes are set.)
use Rattle.std.specs.Prelude.{ℕ, List, [], ◌∷◌, Option}
use Rattle.vt_glyph.specs.declared.set.Set.{Set}
use Rattle.vt_glyph.specs.declared.set.Set.TheVariants.{Ascii, British, German, Special, Supplemental}
use Rattle.vt_glyph.specs.LookUp.{look_up}

-- `B`, `A`, `K`, `0` and `<`
abbrev pub finals : List (ℕ × Set)
finals = (0x42, Ascii) ∷ (0x41, British) ∷ (0x4B, German) ∷ (0x30, Special) ∷ (0x3C, Supplemental) ∷ []

-- the set that a final byte designates, if it designates one
abbrev pub set_of_final : ℕ → Option Set
set_of_final last = look_up finals last

-- the final byte that designates a set
abbrev pub final_of : Set → ℕ
final_of Ascii = 0x42
final_of British = 0x41
final_of German = 0x4B
final_of Special = 0x30
final_of Supplemental = 0x3C
