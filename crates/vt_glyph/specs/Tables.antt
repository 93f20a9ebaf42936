-- The glyphs of the graphic sets, by their Unicode numbers.
-- (EK-VT220-RM, chapter 2: the charts of the sets. The Unicode numbers of Special Graphics, and U+2426 for what is
-- undefined, are this profile's.)
use Rattle.std.specs.Prelude.{ℕ, ◌+◌, List, [], ◌∷◌, Bool, ◌==◌, ◌||◌, IsTrue, zip, if◌then◌else◌}
use Rattle.std.specs.List.{range_with_len, list_any}
use Rattle.vt_glyph.specs.declared.set.Set.{Set}
use Rattle.vt_glyph.specs.declared.set.Set.TheVariants.{Ascii, British, German, Special, Supplemental}
use Rattle.vt_glyph.specs.LookUp.{contains, replaced}

-- U+0020
abbrev pub space : ℕ
space = 0x20

-- U+2426, for what has no glyph
abbrev pub substitute_glyph : ℕ
substitute_glyph = 0x2426

-- British: as ASCII, but the pound sign
abbrev pub british_changes : List (ℕ × ℕ)
british_changes = (0x23, 0xA3) ∷ []

-- German: as ASCII, but the section sign, the umlauts and the sharp s
abbrev pub german_changes : List (ℕ × ℕ)
german_changes =
    (0x40, 0xA7) ∷ (0x5B, 0xC4) ∷ (0x5C, 0xD6) ∷ (0x5D, 0xDC)
    ∷ (0x7B, 0xE4) ∷ (0x7C, 0xF6) ∷ (0x7D, 0xFC) ∷ (0x7E, 0xDF) ∷ []

-- Special Graphics from 60 to 7E, eight codes a line: signs of control characters, lines and other signs
abbrev pub special_from_60 : List ℕ
special_from_60 =
    0x25C6 ∷ 0x2592 ∷ 0x2409 ∷ 0x240C ∷ 0x240D ∷ 0x240A ∷ 0x00B0 ∷ 0x00B1
    ∷ 0x2424 ∷ 0x240B ∷ 0x2518 ∷ 0x2510 ∷ 0x250C ∷ 0x2514 ∷ 0x253C ∷ 0x23BA
    ∷ 0x23BB ∷ 0x2500 ∷ 0x23BC ∷ 0x23BD ∷ 0x251C ∷ 0x2524 ∷ 0x2534 ∷ 0x252C
    ∷ 0x2502 ∷ 0x2264 ∷ 0x2265 ∷ 0x03C0 ∷ 0x2260 ∷ 0x00A3 ∷ 0x00B7 ∷ []

-- Special Graphics: as ASCII to 5E, a space at 5F, and these
abbrev pub special_changes : List (ℕ × ℕ)
special_changes = (0x5F, space) ∷ zip (range_with_len 0x60 31) special_from_60

-- the places of Supplemental that are undefined, by the code with its high bit set
abbrev pub supplemental_undefined : List ℕ
supplemental_undefined =
    0xA4 ∷ 0xA6 ∷ 0xAC ∷ 0xAD ∷ 0xAE ∷ 0xAF ∷ 0xB4 ∷ 0xB8 ∷ 0xBE ∷ 0xD0 ∷ 0xDE ∷ 0xF0 ∷ 0xFE ∷ []

-- Supplemental, by the code with its high bit set: the character of that number, but for these
abbrev pub supplemental_changes : List (ℕ × ℕ)
supplemental_changes = (0xA8, 0xA4) ∷ (0xD7, 0x152) ∷ (0xDD, 0x178) ∷ (0xF7, 0x153) ∷ (0xFD, 0xFF) ∷ []

abbrev pub supplemental_glyph : ℕ → ℕ
supplemental_glyph code =
    if contains supplemental_undefined code then substitute_glyph else replaced supplemental_changes code

-- the glyph of a code from 21 to 7E
unfoldable pub glyph_of : Set → ℕ → ℕ
glyph_of Ascii code = code
glyph_of British code = replaced british_changes code
glyph_of German code = replaced german_changes code
glyph_of Special code = replaced special_changes code
glyph_of Supplemental code = supplemental_glyph (code + 0x80)

-- the codes from 21 to 7E
abbrev pub set_codes : List ℕ
set_codes = range_with_len 0x21 94

-- some code of the set shows the glyph
abbrev pub shows : Set → ℕ → Bool
shows set n = list_any (λ code. glyph_of set code == n) set_codes

-- a glyph is the space, or what some set shows
unfoldable pub is_glyph : ℕ → Bool
is_glyph n =
    n == space || (shows Ascii n || (shows British n || (shows German n || (shows Special n || shows Supplemental n))))

abbrev pub IsGlyph : ℕ → Type 0
IsGlyph n = IsTrue (is_glyph n)
