-- Each glyph, its spelling and its encoding.
use Rattle.std.proofs.Common.{◌≡◌, ℕ, ◌≤◌, ◌<◌, Bool, true, false, ◌&&◌, ◌||◌, not, arith, sym, ap, subst, ◌∙◌}
use Rattle.std.specs.Prelude.{nat_le, slice_index, ◌==◌}
use Rattle.std.proofs.lemmas.Bool.{eqb-true}
use Rattle.std.proofs.lemmas.Bool.Decides.{nat_tests}
use Rattle.vt_glyph.specs.declared.set.Set.{Set}
use Rattle.vt_glyph.specs.declared.glyph.TheConstants.{CHARACTERS}
use Rattle.vt_glyph.specs.declared.glyph.Spelling.{Spelling}
use Rattle.vt_glyph.specs.declared.glyph.Spelling.TheVariants.{Plain, Second, Third}
use Rattle.vt_glyph.specs.Tables.{glyph_of, is_glyph, IsGlyph}
use Rattle.vt_glyph.specs.Spell.{spelling_of, spelled_glyph, code_of}
use Rattle.vt_glyph.specs.Encoding.{encoded_spelling, encoded_glyph, encoding_of, encodings, IsEncoding}
use Rattle.vt_glyph.proofs.Lists.{both, all_in_range}
use Rattle.vt_glyph.proofs.EachSet.{glyph_passes}
use Rattle.vt_glyph.proofs.Charts as charts
use Rattle.vt_glyph.proofs.Charts.{lowest, same_spelling, spells_back}

same_spelling-true : (s t : Spelling) → same_spelling s t ≡ true → s ≡ t
same_spelling-true (Plain a) (Plain b) h = ap Plain (eqb-true a b h)
same_spelling-true (Plain a) (Second b) h = absurd cc
same_spelling-true (Plain a) (Third b) h = absurd cc
same_spelling-true (Second a) (Plain b) h = absurd cc
same_spelling-true (Second a) (Second b) h = ap Second (eqb-true a b h)
same_spelling-true (Second a) (Third b) h = absurd cc
same_spelling-true (Third a) (Plain b) h = absurd cc
same_spelling-true (Third a) (Second b) h = absurd cc
same_spelling-true (Third a) (Third b) h = ap Third (eqb-true a b h)

spells_glyph : (n : ℕ) → IsGlyph n → spells_back n ≡ true
spells_glyph = glyph_passes spells_back charts.spells_space charts.spells

-- what the test of a glyph's spelling says
pub record Spells (n : ℕ) : Type 0 where
  pub writes : spelled_glyph (spelling_of n) ≡ n
  pub low : lowest (spelling_of n) ≤ code_of (spelling_of n)
  pub high : code_of (spelling_of n) ≤ 0x7E
  pub encoded : encoded_spelling (encoding_of n) ≡ spelling_of n

pub spells : (n : ℕ) → IsGlyph n → Spells n
unfolding spells_back
spells n h =
    let code = code_of (spelling_of n) in
    let first = lowest (spelling_of n) in
    let a = both (spelled_glyph (spelling_of n) == n) _ (spells_glyph n h) in
    let b = both (nat_le first code && nat_le code 0x7E)
    (same_spelling (encoded_spelling (encoding_of n)) (spelling_of n)) a.1 in
    let r = both (nat_le first code) (nat_le code 0x7E) b.0 in
    let low : nat_le first code ≡ true = r.0 in
    let high : nat_le code 0x7E ≡ true = r.1 in
    record {
      writes = eqb-true _ n a.0;
      low = grind (arith, nat_tests);
      high = grind (arith, nat_tests);
      encoded = same_spelling-true _ _ b.1;
    }

-- the byte of a glyph encodes it
encoded_glyph-encoding_of : (n : ℕ) → IsGlyph n → encoded_glyph (encoding_of n) ≡ n
unfolding encoded_glyph
encoded_glyph-encoding_of n h = ap spelled_glyph (spells n h).encoded ∙ (spells n h).writes

IsEncoding-encoding_of : (n : ℕ) → IsGlyph n → IsEncoding (encoding_of n)
IsEncoding-encoding_of n h = record {
  glyph = subst IsGlyph (sym (encoded_glyph-encoding_of n h)) h;
  spelling = ap spelling_of (encoded_glyph-encoding_of n h) ∙ sym (spells n h).encoded;
}

-- what a set shows is a glyph
pub IsGlyph-glyph_of : (set : Set) (code : ℕ) → 0x21 ≤ code → code ≤ 0x7E → IsGlyph (glyph_of set code)
IsGlyph-glyph_of set code low high = all_in_range (λ k. is_glyph (glyph_of set k)) 0x21 94 code (charts.glyphs set) low
    (omega arith)

-- the table's byte encodes what the set shows
table_entry : (set : Set) (code : ℕ) → 0x21 ≤ code → code ≤ 0x7E
    → slice_index (encodings set) code ≡ encoding_of (glyph_of set code)
table_entry set code low high =
    eqb-true _ _ (all_in_range (λ k. slice_index (encodings set) k == encoding_of (glyph_of set k)) 0x21 94 code
    (charts.tables set) low (omega arith))

pub IsEncoding-table_entry : (set : Set) (code : ℕ) → 0x21 ≤ code → code ≤ 0x7E
    → IsEncoding (slice_index (encodings set) code)
IsEncoding-table_entry set code low high =
    subst IsEncoding (sym (table_entry set code low high))
    (IsEncoding-encoding_of _ (IsGlyph-glyph_of set code low high))

pub encoded_glyph-table_entry : (set : Set) (code : ℕ) → 0x21 ≤ code → code ≤ 0x7E
    → encoded_glyph (slice_index (encodings set) code) ≡ glyph_of set code
encoded_glyph-table_entry set code low high =
    ap encoded_glyph (table_entry set code low high) ∙ encoded_glyph-encoding_of _ (IsGlyph-glyph_of set code low high)

-- an ASCII code is its own encoding
ascii_both : (n : ℕ) → 0x20 ≤ n → n ≤ 0x7E → (IsGlyph n) × (encoding_of n ≡ n)
ascii_both n low high =
    let a = both (is_glyph n) (encoding_of n == n)
    (all_in_range (λ k. is_glyph k && encoding_of k == k) 0x20 95 n charts.ascii low (omega arith)) in
    (a.0, eqb-true (encoding_of n) n a.1)

pub IsGlyph-ascii : (n : ℕ) → 0x20 ≤ n → n ≤ 0x7E → IsGlyph n
IsGlyph-ascii n low high = (ascii_both n low high).0

pub IsEncoding-ascii : (n : ℕ) → 0x20 ≤ n → n ≤ 0x7E → IsEncoding n
IsEncoding-ascii n low high = let a = ascii_both n low high in subst IsEncoding a.1 (IsEncoding-encoding_of n a.0)

pub encoded_glyph-ascii : (n : ℕ) → 0x20 ≤ n → n ≤ 0x7E → encoded_glyph n ≡ n
encoded_glyph-ascii n low high = let a = ascii_both n low high in ap encoded_glyph (sym a.1)
    ∙ encoded_glyph-encoding_of n a.0

-- the character of a byte that encodes a glyph
pub character_at : (byte : ℕ) → byte < 256 → IsEncoding byte → slice_index CHARACTERS byte ≡ encoded_glyph byte
character_at byte small h =
    let test = all_in_range (λ k. not (is_glyph (encoded_glyph k)) || slice_index CHARACTERS k == encoded_glyph k) 0
    256 byte charts.characters (omega arith) (omega arith) in
    eqb-true _ _ (after (is_glyph (encoded_glyph byte)) (slice_index CHARACTERS byte == encoded_glyph byte) h.glyph
    test)
  where
    after : (a b : Bool) → a ≡ true → not a || b ≡ true → b ≡ true
    after true b e h = h
    after false b e h = absurd cc
