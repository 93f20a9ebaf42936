-- The charts of the sets in GL and GR.
use Rattle.std.proofs.Common.{◌≡◌, ℕ, [], ◌++◌, length, ◌%◌, ◌-◌, ◌≤◌, Bool, true, false, inl, inr, eqb, ltb, arith}
use Rattle.std.proofs.Common.{refl, sym, ap, subst, ◌∙◌}
use Rattle.std.specs.Prelude.{slice_index, if◌then◌else◌}
use Rattle.std.proofs.lemmas.Bool.{eqb-true}
use Rattle.std.proofs.Math.ListN.{get_or-append}
use Rattle.std.proofs.lemmas.List.{get_or-append_right}
use Rattle.std.proofs.lemmas.Bool.Decides.{nat_tests}
use Rattle.vt_glyph.specs.declared.set.Set.{Set}
use Rattle.vt_glyph.specs.Tables.{glyph_of, space, IsGlyph}
use Rattle.vt_glyph.specs.Encoding.{encoded_glyph, encodings, IsEncoding}
use Rattle.vt_glyph.specs.Invocation.{InUseTable, HasGlyph, glyph_in_use}
use Rattle.vt_glyph.proofs.EachSet.{same_for}
use Rattle.vt_glyph.proofs.Charts.{table_space}
use Rattle.vt_glyph.proofs.Glyphs.{IsEncoding-table_entry, encoded_glyph-table_entry, IsEncoding-ascii}
use Rattle.vt_glyph.proofs.Glyphs.{encoded_glyph-ascii}

-- a byte of a chart, that of a code from 20 to 7E
abbrev chart_byte : Set → ℕ → ℕ
chart_byte set code = slice_index (encodings set) code

-- a byte in the chart of two sets
half_length : (set : Set) → length (encodings set) ≡ 0x80
half_length = same_for (λ set. length (encodings set)) (λ set. 0x80) refl

pub both_halves : (left right : Set) (b : ℕ) → HasGlyph b
    → slice_index (encodings left ++ (encodings right ++ [])) b ≡ chart_byte (if ltb b 0x80 then left else right)
    (b % 0x80)
both_halves left right b (inl h) =
    let test : ltb b 0x80 ≡ true = grind (arith, nat_tests) in
    let code : b % 0x80 ≡ b = omega arith in
    rw (test, code) (get_or-append (encodings left) (encodings right ++ []) 0 b (omega (arith, half_length left)))
both_halves left right b (inr h) =
    let test : ltb b 0x80 ≡ false = grind (arith, nat_tests) in
    let code : b % 0x80 ≡ b - 0x80 = omega arith in
    rw (test, code)
    (get_or-append_right (encodings left) (encodings right ++ []) 0x80 b 0 (half_length left) (omega arith)
    ∙ get_or-append (encodings right) [] 0 (b - 0x80) (omega (arith, half_length right)))

-- the byte encodes a glyph
pub record Encodes (byte n : ℕ) : Type 0 where
  pub is : IsEncoding byte
  pub glyph : encoded_glyph byte ≡ n

-- each byte of a chart encodes what the set shows, and the first one the space
chart_byte-Encodes : (set : Set) (code : ℕ) → 0x20 ≤ code → code ≤ 0x7E
    → Encodes (chart_byte set code) (if eqb code 0x20 then space else glyph_of set code)
chart_byte-Encodes set code low high = go (eqb code 0x20) refl
  where
    more : (n : ℕ) → eqb n 0x20 ≡ false → 0x20 ≤ n → 0x21 ≤ n
    more n h k = grind (arith, nat_tests)

    go : (t : Bool) → eqb code 0x20 ≡ t → Encodes (chart_byte set code) (if t then space else glyph_of set code)
    go true e =
        let here : chart_byte set code ≡ 0x20 = ap (chart_byte set) (eqb-true code 0x20 e) ∙ table_space set in
        record {
          is = subst IsEncoding (sym here) (IsEncoding-ascii 0x20 (omega arith) (omega arith));
          glyph = ap encoded_glyph here ∙ encoded_glyph-ascii 0x20 (omega arith) (omega arith);
        }
    go false e = record {
      is = IsEncoding-table_entry set code (more code e low) high;
      glyph = encoded_glyph-table_entry set code (more code e low) high;
    }

-- where the code is 20, the byte is
same_space : (b : ℕ) → HasGlyph b → eqb (b % 0x80) 0x20 ≡ eqb b 0x20
same_space b (inl h) = ap (λ n. eqb n 0x20) (omega arith)
same_space b (inr h) =
    let code : 0x21 ≤ b % 0x80 = omega arith in
    apart (b % 0x80) code ∙ sym (apart b (omega arith))
  where
    apart : (n : ℕ) → 0x21 ≤ n → eqb n 0x20 ≡ false
    apart n more = grind (arith, nat_tests)

code_range : (b : ℕ) → HasGlyph b → (0x20 ≤ b % 0x80) × (b % 0x80 ≤ 0x7E)
code_range b (inl h) = (omega arith, omega arith)
code_range b (inr h) = (omega arith, omega arith)

-- the byte of the chart that a graphic byte is read through
pub in_use-Encodes : (table : InUseTable) (b : ℕ) → HasGlyph b
    → Encodes (chart_byte (if ltb b 0x80 then table.left else table.right) (b % 0x80)) (glyph_in_use table b)
in_use-Encodes table b has =
    let set : Set = if ltb b 0x80 then table.left else table.right in
    let code = code_range b has in
    subst (λ t. Encodes (chart_byte set (b % 0x80)) (if t then space else glyph_of set (b % 0x80))) (same_space b has)
    (chart_byte-Encodes set (b % 0x80) code.0 code.1)

pub glyph_in_use-IsGlyph : (table : InUseTable) (b : ℕ) → HasGlyph b → IsGlyph (glyph_in_use table b)
glyph_in_use-IsGlyph table b has = let byte = in_use-Encodes table b has in subst IsGlyph byte.glyph byte.is.glyph
