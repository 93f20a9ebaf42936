-- The tests of equality are true exactly where the values are equal.
use Rattle.std.proofs.Common.{◌≡◌, Bool, true, false, not, ◌||◌, ℕ, List, eqb, refl, ap, ◌∙◌, rules, ◌<◌, ◌+◌, ◌-◌}
use Rattle.std.proofs.Common.{◌*◌, ◌/◌, ◌%◌, ◌^◌, leb, ◌&&◌, arith, sym, inl, inr}
use Rattle.std.specs.Bool.{Decides}
use Rattle.std.proofs.lemmas.Bool.{and_parts, eqb-true, eq-eqb}
use Rattle.std.specs.Cmp.Lexicographic.{pointwise, pointwise_decides}
use Rattle.vt_glyph.specs.declared.set.Set.{Set}
use Rattle.vt_screen.specs.declared.cell.Rendition.{Rendition}
use Rattle.vt_screen.specs.declared.cell.Brush.{Brush}
use Rattle.vt_screen.specs.declared.cell.Cell.{Cell}
use Rattle.vt_screen.specs.Cells.{blank, brush_of, cell_of}
use Rattle.vt_term.specs.State.{Saved}
use Rattle.vt_screen.specs.Same.{same_bool, same_rendition, same_brush}
use Rattle.vt_paint.specs.Same.{is_blank, same_set, same_saved}
use Rattle.vt_paint.specs.Changes.{same_cell}
use Rattle.vt_paint.proofs.Tests.{both_pass, all_brushes, at_brush}
use Rattle.std.proofs.lemmas.Bool.Decides.{eqb_tells, nat_tests}
use Rattle.vt_glyph.specs.Tables.{glyph_of}
use Rattle.vt_glyph.specs.Spell.{spelling_of}
use Rattle.vt_glyph.specs.Encoding.{encoding_of, encoded_glyph}
use Rattle.vt_paint.specs.Private.HeaderParts.{brush_number, cell_word, lowest_word}

pub or_false : (a b : Bool) → a || b ≡ false → (a ≡ false) × (b ≡ false)
or_false true b h = absurd cc
or_false false b h = (refl, h)

pub not_false : (a : Bool) → not a ≡ false → a ≡ true
not_false true h = refl
not_false false h = absurd cc

pub same_bool-decides : (a b : Bool) → Decides (same_bool a b) (a ≡ b)
same_bool-decides a b = search rules

same_bool-is : (a b : Bool) → same_bool a b ≡ true → a ≡ b
same_bool-is a b = (same_bool-decides a b).0

pub same_rendition-is : (a b : Rendition) → same_rendition a b ≡ true → a ≡ b
same_rendition-is a b h =
    let p1 = and_parts (same_bool a.bold b.bold) _ h in
    let p2 = and_parts (same_bool a.underline b.underline) _ p1.1 in
    let p3 = and_parts (same_bool a.blink b.blink) (same_bool a.reverse b.reverse) p2.1 in
    let f : Bool → Bool → Bool → Bool → Rendition =
    λ b u k r. record { bold = b; underline = u; blink = k; reverse = r } in
    let same : f a.bold a.underline a.blink a.reverse ≡ f b.bold b.underline b.blink b.reverse =
    cc (
      same_bool-is a.bold b.bold p1.0,
      same_bool-is a.underline b.underline p2.0,
      same_bool-is a.blink b.blink p3.0,
      same_bool-is a.reverse b.reverse p3.1,
    ) in
    same

pub same_brush-is : (a b : Brush) → same_brush a b ≡ true → a ≡ b
same_brush-is a b h =
    let p = and_parts (same_rendition a.rendition b.rendition) (same_bool a.protected b.protected) h in
    let f : Rendition → Bool → Brush = λ r p. record { rendition = r; protected = p } in
    let same : f a.rendition a.protected ≡ f b.rendition b.protected =
    cc (same_rendition-is a.rendition b.rendition p.0, same_bool-is a.protected b.protected p.1) in
    same

pub same_brush-same : (x : Brush) → same_brush x x ≡ true
unfolding all_brushes both_pass
same_brush-same x = at_brush (λ x. same_brush x x) refl x

pub same_cell-is : (a b : Cell) → same_cell a b ≡ true → a ≡ b
same_cell-is a b h =
    let p = and_parts (eqb a.glyph b.glyph) (same_brush (brush_of a) (brush_of b)) h in
    ap (λ n. cell_of n (brush_of a)) (eqb-true a.glyph b.glyph p.0)
    ∙ ap (λ x. cell_of b.glyph x) (same_brush-is (brush_of a) (brush_of b) p.1)

pub is_blank-is : (cell : Cell) → is_blank cell ≡ true → cell ≡ blank
is_blank-is cell h = same_cell-is cell blank h

same_set-decides : (a b : Set) → Decides (same_set a b) (a ≡ b)
same_set-decides a b = search rules

pub same_saved-is : (a b : Saved) → same_saved a b ≡ true → a ≡ b
same_saved-is a b h =
    let p1 = and_parts (eqb a.row b.row) _ h in
    let p2 = and_parts (eqb a.col b.col) _ p1.1 in
    let p3 = and_parts (same_bool a.wrap b.wrap) _ p2.1 in
    let p4 = and_parts (same_brush a.brush b.brush) _ p3.1 in
    let p5 = and_parts (pointwise same_set a.g b.g) _ p4.1 in
    let p6 = and_parts (eqb a.gl b.gl) _ p5.1 in
    let p7 = and_parts (eqb a.gr b.gr) (same_bool a.origin b.origin) p6.1 in
    let f : ℕ → ℕ → Bool → Brush → List Set → ℕ → ℕ → Bool → Saved = λ row col wrap brush g gl gr origin.
    record { row = row; col = col; wrap = wrap; brush = brush; g = g; gl = gl; gr = gr; origin = origin } in
    let same : f a.row a.col a.wrap a.brush a.g a.gl a.gr a.origin ≡ f b.row b.col b.wrap b.brush b.g b.gl b.gr b.origin =
    cc (
      eqb-true a.row b.row p1.0,
      eqb-true a.col b.col p2.0,
      same_bool-is a.wrap b.wrap p3.0,
      same_brush-is a.brush b.brush p4.0,
      (pointwise_decides same_set-decides a.g b.g).0 p5.0,
      eqb-true a.gl b.gl p6.0,
      eqb-true a.gr b.gr p7.0,
      same_bool-is a.origin b.origin p7.1,
    ) in
    same

same_parts : (m n p q : ℕ) → m < 0x100 → p < 0x100
    → eqb (m + 0x1000000 * n) (p + 0x1000000 * q) ≡ (eqb m p && eqb n q)
same_parts m n p q small small_2 = grind (arith, nat_tests)

same_codes : (m n : ℕ) → encoded_glyph (encoding_of m) ≡ m → encoded_glyph (encoding_of n) ≡ n
    → eqb (encoding_of m) (encoding_of n) ≡ eqb m n
same_codes m n back back_2 = elim (eqb_tells m n) [
  | inl e ↦ eq-eqb _ _ (ap encoding_of e.1) ∙ sym (eq-eqb m n e.1)
  | inr e ↦ elim (eqb_tells (encoding_of m) (encoding_of n)) [
    | inl f ↦ absurd (e.1 (sym back ∙ ap encoded_glyph f.1 ∙ back_2))
    | inr f ↦ f.0 ∙ sym e.0
  ]
]

same_numbers : (a b : Brush) → eqb (brush_number a) (brush_number b) ≡ same_brush a b
unfolding all_brushes both_pass
same_numbers a b =
    let test : Brush → Brush → Bool = λ a b. same_bool (eqb (brush_number a) (brush_number b)) (same_brush a b) in
    (same_bool-decides _ (same_brush a b)).0 (at_brush (test a) (at_brush (λ a. all_brushes (test a)) refl a) b)

same_words : (a b : Cell) → encoded_glyph (encoding_of a.glyph) ≡ a.glyph
    → encoded_glyph (encoding_of b.glyph) ≡ b.glyph
    → encoding_of a.glyph < 0x100 → encoding_of b.glyph < 0x100
    → eqb (cell_word a) (cell_word b) ≡ same_cell a b
same_words a b back back_2 small small_2 =
    same_parts (encoding_of a.glyph) (brush_number (brush_of a)) (encoding_of b.glyph) (brush_number (brush_of b))
    small small_2
    ∙ ap (λ x. x && eqb (brush_number (brush_of a)) (brush_number (brush_of b)))
    (same_codes a.glyph b.glyph back back_2)
    ∙ ap (λ x. eqb a.glyph b.glyph && x) (same_numbers (brush_of a) (brush_of b))

-- a blank cell's word is 20
pub blank_word : (cell : Cell) (word : ℕ) → word ≡ cell_word cell → encoded_glyph (encoding_of cell.glyph) ≡ cell.glyph
    → encoding_of cell.glyph < 0x100 → eqb word 0x20 ≡ is_blank cell
unfolding encoding_of spelling_of encoded_glyph glyph_of
blank_word cell word is back small =
    ap (λ n. eqb n 0x20) is ∙ same_words cell blank back refl small (omega arith)

-- a cell of the same brush
pub with_brush : (brush : Brush) (cell : Cell) (word number : ℕ) → word ≡ cell_word cell
    → encoding_of cell.glyph < 0x100
    → number ≡ brush_number brush → word / 0x1000000 ≡ number → same_brush brush (brush_of cell) ≡ true
with_brush brush cell word number is small own same =
    let top : word / 0x1000000 ≡ brush_number (brush_of cell) = omega (arith, is, small) in
    sym (same_numbers brush (brush_of cell)) ∙ eq-eqb _ _ (sym own ∙ sym same ∙ top)

-- a word that is little above the lowest word of its brush is no blank one
pub above_lowest : (word number low : ℕ) → low ≡ lowest_word number → number < 2 ^ 40 → word < 2 ^ 64
    → leb ((word + (2 ^ 64 - low)) % 2 ^ 64) 0x5D ≡ true → eqb word 0x20 ≡ false
above_lowest word number low lowest small word_small h = grind (arith, nat_tests)
