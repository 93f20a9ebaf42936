-- The laws of reading and spelling.
use Rattle.std.proofs.Common.{◌≡◌, ℕ, ◌%◌, ◌≤◌, Bool, true, false, Some, None, eqb, ltb, not, ◌&&◌, ◌||◌, arith, refl}
use Rattle.std.proofs.Common.{sym, ap, ◌∙◌}
use Rattle.std.specs.Prelude.{IfSome, unwrap_or, if◌then◌else◌}
use Rattle.std.proofs.lemmas.Bool.Decides.{nat_tests}
use Rattle.vt_glyph.specs.declared.glyph.Spelling.{Spelling}
use Rattle.vt_glyph.specs.declared.glyph.Spelling.TheVariants.{Plain, Second, Third}
use Rattle.vt_glyph.specs.GraphicSets.{GraphicSets}
use Rattle.vt_glyph.specs.Tables.{glyph_of, IsGlyph, space}
use Rattle.vt_glyph.specs.Invocation.{set_at, invoked, glyph_read, after_read, shifted_once}
use Rattle.vt_glyph.specs.Spell.{spelling_of, spelled_glyph, code_of, shifted_for, AreSpellingSets}
use Rattle.vt_glyph.proofs.Charts.{lowest, space_is_glyph}
use Rattle.vt_glyph.proofs.Glyphs.{spells, IsGlyph-glyph_of}
use Rattle.vt_glyph.proofs.Reading.{glyph_read-ascii, glyph_read-low, after_read-low, after_read-plain}

-- a spelling writes its glyph
written : (s : Spelling) (sets : GraphicSets) → AreSpellingSets sets → lowest s ≤ code_of s → code_of s ≤ 0x7E
    → glyph_read (shifted_for s sets) (code_of s) ≡ Some (spelled_glyph s)
unfolding glyph_of
written (Plain code) sets h low high =
    glyph_read-ascii sets code (ap (λ p. set_at sets (unwrap_or p sets.left)) h.pending
    ∙ (ap (λ slot. set_at sets slot) h.left ∙ h.g0)) low high
written (Second code) sets h low high = glyph_read-low (shifted_once 2 sets) code low high
    ∙ ap (λ set. Some (glyph_of set code)) h.g2
written (Third code) sets h low high = glyph_read-low (shifted_once 3 sets) code low high
    ∙ ap (λ set. Some (glyph_of set code)) h.g3

pub spelling_writes : (sets : GraphicSets) (n : ℕ) → AreSpellingSets sets → IsGlyph n
    → glyph_read (shifted_for (spelling_of n) sets) (code_of (spelling_of n)) ≡ Some n
spelling_writes sets n h glyph =
    let k = spells n glyph in
    written (spelling_of n) sets h k.low k.high ∙ ap Some k.writes

pub spelling_code : (n : ℕ) → IsGlyph n → (0x20 ≤ code_of (spelling_of n)) × (code_of (spelling_of n) ≤ 0x7E)
spelling_code n glyph = (go (spelling_of n) (spells n glyph).low, (spells n glyph).high)
  where
    go : (s : Spelling) → lowest s ≤ code_of s → 0x20 ≤ code_of s
    go (Plain code) low = low
    go (Second code) low = omega arith
    go (Third code) low = omega arith

-- a spelling leaves the sets as they were
left : (s : Spelling) (sets : GraphicSets) → sets.pending ≡ None → 0x20 ≤ code_of s → code_of s ≤ 0x7E
    → after_read (shifted_for s sets) (code_of s) ≡ sets
left (Plain code) sets none low high = after_read-plain sets code none low high
left (Second code) sets none low high = after_read-low (shifted_once 2 sets) code low high
    ∙ ap (λ p. record sets { pending = p }) (sym none)
left (Third code) sets none low high = after_read-low (shifted_once 3 sets) code low high
    ∙ ap (λ p. record sets { pending = p }) (sym none)

pub spelling_leaves : (sets : GraphicSets) (n : ℕ) → AreSpellingSets sets → IsGlyph n
    → after_read (shifted_for (spelling_of n) sets) (code_of (spelling_of n)) ≡ sets
spelling_leaves sets n h glyph = let k = spelling_code n glyph in left (spelling_of n) sets h.pending k.0 k.1

pub spelling_injective : (m n : ℕ) → IsGlyph m → IsGlyph n → spelling_of m ≡ spelling_of n → m ≡ n
spelling_injective m n gm gn e = sym (spells m gm).writes ∙ (ap spelled_glyph e ∙ (spells n gn).writes)

-- what is read is a glyph
pub glyph_read-IsGlyph : (sets : GraphicSets) (b : ℕ) → IfSome (glyph_read sets b) IsGlyph
unfolding glyph_read
glyph_read-IsGlyph sets b = go (eqb b 0x20) (ltb (b % 0x80) 0x21) (ltb 0x7E (b % 0x80)) refl refl
  where
    low : (n : ℕ) → ltb n 0x21 ≡ false → 0x21 ≤ n
    low n h = grind (arith, nat_tests)

    high : (n : ℕ) → ltb 0x7E n ≡ false → n ≤ 0x7E
    high n h = grind (arith, nat_tests)

    go : (z x y : Bool) → ltb (b % 0x80) 0x21 ≡ x → ltb 0x7E (b % 0x80) ≡ y
        → IfSome (if not z && (x || y) then None else (if z then Some space else Some
        (glyph_of (invoked sets b) (b % 0x80)))) IsGlyph
    go true x y p q = space_is_glyph
    go false true y p q = tt
    go false false true p q = tt
    go false false false p q = IsGlyph-glyph_of (invoked sets b) (b % 0x80) (low (b % 0x80) p) (high (b % 0x80) q)
