-- The encoding of a glyph in one byte, by its spelling. Among the public clauses only those of `Glyph::code` use it.
-- (this profile)
use Rattle.std.specs.Prelude.{◌≡◌, ℕ, ◌+◌, ◌-◌, List, nat_lt, if◌then◌else◌}
use Rattle.std.proofs.Common.{arith, sym, ap, ◌∙◌}
use Rattle.std.proofs.lemmas.Bool.Decides.{nat_tests}
use Rattle.vt_glyph.specs.declared.set.Set.{Set}
use Rattle.vt_glyph.specs.declared.set.Set.TheVariants.{Ascii, British, German, Special, Supplemental}
use Rattle.vt_glyph.specs.declared.set.TheConstants.{ASCII, BRITISH, GERMAN, SPECIAL, SUPPLEMENTAL}
use Rattle.vt_glyph.specs.declared.glyph.Glyph.TheInside.{Inside}
use Rattle.vt_glyph.specs.declared.glyph.Spelling.{Spelling}
use Rattle.vt_glyph.specs.declared.glyph.Spelling.TheVariants.{Plain, Second, Third}
use Rattle.vt_glyph.specs.Tables.{IsGlyph}
use Rattle.vt_glyph.specs.Spell.{spelling_of, spelled_glyph}

-- the spelling of a byte: 00 to 1F are for the codes of G3 starting at 60, and 80 to FF for those of G2
abbrev pub encoded_spelling : ℕ → Spelling
encoded_spelling byte =
    if nat_lt byte 0x20 then Third (byte + 0x60) else (
    if nat_lt byte 0x80 then Plain byte else Second (byte - 0x80))

-- the byte of a spelling
abbrev pub spelling_byte : Spelling → ℕ
spelling_byte (Plain code) = code
spelling_byte (Second code) = code + 0x80
spelling_byte (Third code) = code - 0x60

-- the glyph of a byte
unfoldable pub encoded_glyph : ℕ → ℕ
encoded_glyph byte = spelled_glyph (encoded_spelling byte)

-- the byte of a glyph
unfoldable pub encoding_of : ℕ → ℕ
encoding_of n = spelling_byte (spelling_of n)

-- the byte encodes a glyph, by the one spelling of it
pub record IsEncoding (byte : ℕ) : Type 0 where
  pub glyph : IsGlyph (encoded_glyph byte)
  pub spelling : spelling_of (encoded_glyph byte) ≡ encoded_spelling byte

-- the encodings of a set's glyphs, by their codes; 20 is the space in every set
abbrev pub encodings : Set → List ℕ
encodings Ascii = ASCII
encodings British = BRITISH
encodings German = GERMAN
encodings Special = SPECIAL
encodings Supplemental = SUPPLEMENTAL

-- a byte that encodes a glyph is the byte of that glyph
pub encoding_of-encoded_glyph : (byte : ℕ) → IsEncoding byte → encoding_of (encoded_glyph byte) ≡ byte
unfolding encoding_of
encoding_of-encoded_glyph byte h = rw h.spelling (grind (arith, nat_tests))

-- the fields of a `Glyph` follow from its Unicode number
pub fields_back : (g : Inside) → IsEncoding g.byte → g.second ≡ 0 → g.third ≡ 0
    → record { byte = encoding_of (encoded_glyph g.byte); second = 0; third = 0 } ≡ g
fields_back g h second third =
    ap (λ byte. record { byte = byte; second = 0; third = 0 }) (encoding_of-encoded_glyph g.byte h)
    ∙ ap (λ n. record { byte = g.byte; second = n; third = 0 }) (sym second)
    ∙ ap (λ n. record { byte = g.byte; second = g.second; third = n }) (sym third)
