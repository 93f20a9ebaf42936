-- The tables, checked entry by entry, by computing.
use Rattle.std.proofs.Common.{◌≡◌, ℕ, Bool, true, false, not, refl, ◌==◌, ◌&&◌, ◌||◌}
use Rattle.std.specs.Prelude.{nat_le, slice_index}
use Rattle.std.specs.List.{range_with_len, list_all}
use Rattle.vt_glyph.specs.declared.set.Set.{Set}
use Rattle.vt_glyph.specs.declared.glyph.TheConstants.{CHARACTERS}
use Rattle.vt_glyph.specs.declared.glyph.Spelling.{Spelling}
use Rattle.vt_glyph.specs.declared.glyph.Spelling.TheVariants.{Plain, Second, Third}
use Rattle.vt_glyph.specs.Tables.{glyph_of, is_glyph, set_codes}
use Rattle.vt_glyph.specs.Spell.{spelling_of, spelled_glyph, code_of}
use Rattle.vt_glyph.specs.Encoding.{encoded_spelling, encoded_glyph, encoding_of, encodings}
use Rattle.vt_glyph.proofs.EachSet.{EachPasses, all_shown, same_for, passes}

abbrev pub same_spelling : Spelling → Spelling → Bool
same_spelling (Plain a) (Plain b) = a == b
same_spelling (Second a) (Second b) = a == b
same_spelling (Third a) (Third b) = a == b
same_spelling _ _ = false

-- the lowest code after no shift and after a single shift
abbrev pub lowest : Spelling → ℕ
lowest (Plain code) = 0x20
lowest (Second code) = 0x21
lowest (Third code) = 0x21

-- the spelling writes the glyph by a graphic code, and its byte encodes it
unfoldable pub spells_back : ℕ → Bool
spells_back n =
    spelled_glyph (spelling_of n) == n
    && ((nat_le (lowest (spelling_of n)) (code_of (spelling_of n)) && nat_le (code_of (spelling_of n)) 0x7E)
    && same_spelling (encoded_spelling (encoding_of n)) (spelling_of n))

pub spells_space : spells_back 0x20 ≡ true
unfolding glyph_of spelling_of encoding_of spells_back
spells_space = refl

pub spells : EachPasses (all_shown spells_back)
unfolding glyph_of spelling_of encoding_of spells_back
spells = refl

-- the code's tables encode the glyphs of the charts
pub tables : (set : Set) → list_all (λ code. slice_index (encodings set) code == encoding_of (glyph_of set code))
    set_codes ≡ true
unfolding glyph_of spelling_of encoding_of
tables = passes (λ set. list_all (λ code. slice_index (encodings set) code == encoding_of (glyph_of set code)) set_codes)
    refl

-- and the space before them
pub table_space : (set : Set) → slice_index (encodings set) 0x20 ≡ 0x20
table_space = same_for (λ set. slice_index (encodings set) 0x20) (λ set. 0x20) refl

pub glyphs : (set : Set) → all_shown is_glyph set ≡ true
unfolding glyph_of is_glyph
glyphs = passes (all_shown is_glyph) refl

pub space_is_glyph : is_glyph 0x20 ≡ true
unfolding is_glyph
space_is_glyph = refl

pub substitute_is_glyph : is_glyph 0x2426 ≡ true
unfolding glyph_of is_glyph
substitute_is_glyph = refl

-- the ASCII glyphs from 20 to 7E, each of which is its own encoding
pub ascii : list_all (λ n. is_glyph n && encoding_of n == n) (range_with_len 0x20 95) ≡ true
unfolding glyph_of is_glyph spelling_of encoding_of
ascii = refl

-- the characters of the bytes that encode a glyph
pub characters : list_all (λ byte. not (is_glyph (encoded_glyph byte)) || slice_index CHARACTERS byte ==
    encoded_glyph byte) (range_with_len 0 256) ≡ true
unfolding glyph_of is_glyph encoded_glyph
characters = refl
