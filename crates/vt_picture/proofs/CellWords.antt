-- The words of cells without their protection.
use Rattle.std.proofs.Common.{◌≡◌, ℕ, ◌+◌, ◌-◌, ◌*◌, ◌/◌, ◌%◌, ◌^◌, ◌<◌, ◌≤◌, [], ◌∷◌, leb, eqb, Bool, true, false, ◌&&◌}
use Rattle.std.proofs.Common.{refl, sym, ap, ◌∙◌, arith, encode_utf8, nat_lt}
use Rattle.std.proofs.lemmas.Bool.{eq-eqb, leb-true}
use Rattle.std.proofs.lemmas.Bool.Decides.{nat_tests}
use Rattle.std.proofs.lemmas.Str.{encode_ascii}
use Rattle.vt_glyph.specs.Tables.{space, glyph_of, IsGlyph}
use Rattle.vt_glyph.specs.Encoding.{encoding_of, encoded_glyph}
use Rattle.vt_glyph.proofs.EachSet.{glyph_passes}
use Rattle.vt_screen.specs.declared.cell.Rendition.{Rendition}
use Rattle.vt_screen.specs.declared.cell.Brush.{Brush}
use Rattle.vt_screen.specs.declared.cell.Cell.{Cell}
use Rattle.vt_screen.specs.Cells.{plain, brush_of}
use Rattle.vt_screen.specs.Words.{bit, brush_number, cell_word}
use Rattle.vt_screen.specs.Same.{same_bool, same_rendition}
use Rattle.vt_paint.proofs.Tests.{both_pass, all_brushes, at_brush}
use Rattle.vt_paint.proofs.Equality.{blank_word, same_bool-decides}
use Rattle.vt_picture.specs.Looks.{is_blank}
use Rattle.vt_picture.specs.Private.Words.{look_number, look_word, space_word}

bit-small : (b : Bool) → bit b ≤ 1
bit-small true = omega arith
bit-small false = omega arith

number-small : (look : Rendition) → look_number look < 0x100000000
number-small look =
    omega (arith, bit-small look.bold, bit-small look.underline, bit-small look.blink, bit-small look.reverse)

-- a cell's word less what its protection adds
pub without_protection : (cell : Cell) (word : ℕ) → word ≡ cell_word cell → encoding_of cell.glyph < 0x100
    → word % 0x100000000000000 ≡ look_word cell
without_protection cell word is small =
    omega (
      arith,
      is,
      small,
      bit-small cell.rendition.bold,
      bit-small cell.rendition.underline,
      bit-small cell.rendition.blink,
      bit-small cell.rendition.reverse,
      bit-small cell.protected,
    )

unprotected : Cell → Cell
unprotected cell = record { glyph = cell.glyph; rendition = cell.rendition; protected = false }

word-unprotected : (cell : Cell) → look_word cell ≡ cell_word (unprotected cell)
unfolding unprotected
word-unprotected cell = omega arith

and_true : (a : Bool) → a && true ≡ a
and_true true = refl
and_true false = refl

-- a blank cell's word is 20
pub blank_look : (cell : Cell) (word : ℕ) → word ≡ look_word cell → encoded_glyph (encoding_of cell.glyph) ≡ cell.glyph
    → encoding_of cell.glyph < 0x100 → eqb word 0x20 ≡ is_blank cell
unfolding unprotected
blank_look cell word is back small =
    blank_word (unprotected cell) word (is ∙ word-unprotected cell) back small
    ∙ ap (λ x. eqb cell.glyph space && x) (and_true (same_rendition cell.rendition plain))

same_numbers : (a b : Rendition) → eqb (look_number a) (look_number b) ≡ same_rendition a b
unfolding all_brushes both_pass
same_numbers a b =
    let brush : Rendition → Brush = λ look. record { rendition = look; protected = false } in
    let test : Brush → Brush → Bool =
    λ x y. same_bool (eqb (look_number x.rendition) (look_number y.rendition)) (same_rendition x.rendition y.rendition) in
    (same_bool-decides _ (same_rendition a b)).0
    (at_brush (test (brush a)) (at_brush (λ x. all_brushes (test x)) refl (brush a)) (brush b))

-- a cell has the attributes whose number its word has
pub same_look_by : (look : Rendition) (cell : Cell) (word low : ℕ) → word ≡ look_word cell → encoding_of cell.glyph < 0x100
    → low ≡ space_word look → eqb (low / 0x1000000) (word / 0x1000000) ≡ same_rendition look cell.rendition
same_look_by look cell word low is small own =
    let here : word / 0x1000000 ≡ look_number cell.rendition = omega (arith, is, small) in
    let there : low / 0x1000000 ≡ look_number look = omega (arith, own) in
    ap (λ n. eqb n (word / 0x1000000)) there
    ∙ ap (λ n. eqb (look_number look) n) here
    ∙ same_numbers look cell.rendition

-- a word that is little above that of a space
little-above : (word low e n m : ℕ) → word ≡ e + 0x1000000 * n → low ≡ 0x20 + 0x1000000 * m → e < 0x100 → n < 2 ^ 40
    → m < 2 ^ 40 → leb ((word + (2 ^ 64 - low)) % 2 ^ 64) 0x5E ≡ true → (n ≡ m) × ((0x20 ≤ e) × (e ≤ 0x7E))
little-above word low e n m is own small here there h = grind (arith, nat_tests)

plain-glyph : (b : ℕ) → 0x20 ≤ b → b ≤ 0x7E → encoded_glyph b ≡ b
unfolding encoded_glyph glyph_of
plain-glyph b low high = grind (arith, nat_tests)

-- a glyph whose code is ASCII is one byte
pub ascii-character : (glyph : ℕ) → encoded_glyph (encoding_of glyph) ≡ glyph → 0x20 ≤ encoding_of glyph
    → encoding_of glyph ≤ 0x7E → encode_utf8 glyph ≡ encoding_of glyph ∷ []
ascii-character glyph back low high =
    ap encode_utf8 (sym back ∙ plain-glyph (encoding_of glyph) low high)
    ∙ encode_ascii (encoding_of glyph) (omega (arith, high))

pub ascii-code : (glyph code : ℕ) → code ≡ encoding_of glyph → encoded_glyph code ≡ glyph → 0x20 ≤ code
    → leb code 0x7E ≡ true → encode_utf8 glyph ≡ encoding_of glyph ∷ []
ascii-code glyph code is back low high =
    ascii-character glyph (ap encoded_glyph (sym is) ∙ back) (omega (arith, is, low))
    (omega (arith, is, leb-true code 0x7E high))

abbrev is_short : ℕ → Bool
is_short n = nat_lt n 0x10000

-- a glyph's number
pub glyph_short : (n : ℕ) → IsGlyph n → n < 0x10000
unfolding glyph_of
glyph_short n is =
    let test : is_short n ≡ true = glyph_passes is_short refl refl n is in
    grind (arith, nat_tests, test)

module _ (look : Rendition) (cell : Cell) (word low : ℕ) (is : word ≡ cell_word cell) (small : encoding_of cell.glyph < 0x100)
    (own : low ≡ space_word look) (h : leb ((word + (2 ^ 64 - low)) % 2 ^ 64) 0x5E ≡ true) where
  above : (brush_number (brush_of cell) ≡ look_number look)
      × ((0x20 ≤ encoding_of cell.glyph) × (encoding_of cell.glyph ≤ 0x7E))
  above =
      let brush : brush_number (brush_of cell) < 2 ^ 40 =
      omega (arith, number-small cell.rendition, bit-small cell.protected) in
      little-above word low (encoding_of cell.glyph) (brush_number (brush_of cell)) (look_number look) is own small brush
      (omega (arith, number-small look)) h

  -- it has the attributes of the space
  pub plain-look : same_rendition look cell.rendition ≡ true
  plain-look =
      sym (same_numbers look cell.rendition)
      ∙ eq-eqb (look_number look) (look_number cell.rendition)
      (omega (arith, above.0, number-small look, bit-small cell.protected))

  -- and a character of one byte
  pub plain-character : encoded_glyph (encoding_of cell.glyph) ≡ cell.glyph
      → encode_utf8 cell.glyph ≡ encoding_of cell.glyph ∷ []
  plain-character back = ascii-character cell.glyph back above.1.0 above.1.1
