-- When two cells are equal.
use Rattle.std.proofs.Common.{◌≡◌, ℕ, ◌<◌, ◌≤◌, ◌+◌, ◌*◌, Bool, true, false, arith, refl, sym, ap, ◌∙◌}
use Rattle.vt_glyph.specs.Encoding.{encoding_of, encoded_glyph}
use Rattle.vt_screen.specs.declared.cell.Cell.{Cell}
use Rattle.vt_screen.specs.declared.cell.Rendition.{Rendition}
use Rattle.vt_screen.specs.Words.{bit, cell_word}

same-rendition : (a b : Rendition) → a.bold ≡ b.bold → a.underline ≡ b.underline → a.blink ≡ b.blink
    → a.reverse ≡ b.reverse → a ≡ b
same-rendition a b p q r s =
    let f : Bool → Bool → Bool → Bool → Rendition = λ w x y z.
    record { bold = w; underline = x; blink = y; reverse = z } in
    ap (λ w. f w a.underline a.blink a.reverse) p
    ∙ ap (λ x. f b.bold x a.blink a.reverse) q
    ∙ ap (λ y. f b.bold b.underline y a.reverse) r
    ∙ ap (λ z. f b.bold b.underline b.blink z) s

same-fields : (a b : Cell) → a.glyph ≡ b.glyph → a.rendition ≡ b.rendition → a.protected ≡ b.protected → a ≡ b
same-fields a b p q r =
    let f : ℕ → Rendition → Bool → Cell = λ x y z. record { glyph = x; rendition = y; protected = z } in
    ap (λ x. f x a.rendition a.protected) p
    ∙ ap (λ y. f b.glyph y a.protected) q
    ∙ ap (λ z. f b.glyph b.rendition z) r

bit-small : (b : Bool) → bit b ≤ 1
bit-small true = omega arith
bit-small false = omega arith

same-bit : (a b : Bool) → bit a ≡ bit b → a ≡ b
same-bit true true h = refl
same-bit true false h = absurd (omega (arith, h))
same-bit false true h = absurd (omega (arith, h))
same-bit false false h = refl

-- two numbers with the same low and high part
same-parts : (low high low_2 high_2 : ℕ) → low < 0x1000000 → low_2 < 0x1000000
    → low + 0x1000000 * high ≡ low_2 + 0x1000000 * high_2 → (low ≡ low_2) × (high ≡ high_2)
same-parts low high low_2 high_2 small small_2 h = (omega (arith, small, small_2, h), omega (arith, small, small_2, h))

same-bytes : (low high low_2 high_2 : ℕ) → low ≤ 1 → low_2 ≤ 1
    → low + 0x100 * high ≡ low_2 + 0x100 * high_2 → (low ≡ low_2) × (high ≡ high_2)
same-bytes low high low_2 high_2 small small_2 h = (omega (arith, small, small_2, h), omega (arith, small, small_2, h))

-- cells of one word are the same
pub same-word : (a b : Cell) → encoded_glyph (encoding_of a.glyph) ≡ a.glyph
    → encoded_glyph (encoding_of b.glyph) ≡ b.glyph
    → encoding_of a.glyph < 0x100 → encoding_of b.glyph < 0x100 → cell_word a ≡ cell_word b → a ≡ b
same-word a b back back_2 small small_2 h =
    let parts = same-parts (encoding_of a.glyph) (bit a.rendition.bold + 0x100 * (bit a.rendition.underline
    + 0x100 * (bit a.rendition.blink + 0x100 * (bit a.rendition.reverse + 0x100 * bit a.protected))))
    (encoding_of b.glyph) (bit b.rendition.bold + 0x100 * (bit b.rendition.underline
    + 0x100 * (bit b.rendition.blink + 0x100 * (bit b.rendition.reverse + 0x100 * bit b.protected))))
    (omega (arith, small)) (omega (arith, small_2)) (omega (arith, h)) in
    let bold = same-bytes (bit a.rendition.bold) _ (bit b.rendition.bold) _
    (bit-small a.rendition.bold) (bit-small b.rendition.bold) parts.1 in
    let underline = same-bytes (bit a.rendition.underline) _ (bit b.rendition.underline) _
    (bit-small a.rendition.underline) (bit-small b.rendition.underline) bold.1 in
    let blink = same-bytes (bit a.rendition.blink) _ (bit b.rendition.blink) _
    (bit-small a.rendition.blink) (bit-small b.rendition.blink) underline.1 in
    let reverse = same-bytes (bit a.rendition.reverse) _ (bit b.rendition.reverse) _
    (bit-small a.rendition.reverse) (bit-small b.rendition.reverse) blink.1 in
    same-fields a b (sym back ∙ ap encoded_glyph parts.0 ∙ back_2)
    (same-rendition a.rendition b.rendition (same-bit _ _ bold.0) (same-bit _ _ underline.0) (same-bit _ _ blink.0)
    (same-bit _ _ reverse.0))
    (same-bit _ _ reverse.1)
