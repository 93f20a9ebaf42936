-- Reading a graphic byte through the sets.
use Rattle.std.proofs.Common.{◌≡◌, ℕ, ◌%◌, ◌≤◌, Bool, true, false, not, ◌&&◌, ◌||◌, inl, inr, Some, None, Option, eqb}
use Rattle.std.proofs.Common.{ltb, arith, rules, refl, sym, ap, ◌∙◌}
use Rattle.std.specs.Prelude.{unwrap_or, if◌then◌else◌}
use Rattle.std.proofs.lemmas.Bool.{lt-ltb, ne_eqb, eqb-true}
use Rattle.std.proofs.lemmas.Bool.Decides.{nat_tests}
use Rattle.vt_glyph.specs.declared.set.Set.TheVariants.{Ascii}
use Rattle.vt_glyph.specs.GraphicSets.{GraphicSets, AreSoundSets}
use Rattle.vt_glyph.specs.Tables.{glyph_of, space}
use Rattle.vt_glyph.specs.Invocation.{set_at, has_no_glyph, glyph_read, after_read, in_use, glyph_in_use, HasGlyph}

-- the slot that a byte of the left half is read through
abbrev left_slot : GraphicSets → ℕ
left_slot sets = unwrap_or sets.pending sets.left

low_has_glyph : (b : ℕ) → 0x20 ≤ b → b ≤ 0x7E → has_no_glyph b ≡ false
low_has_glyph b low high =
    let code : b % 0x80 ≡ b = omega arith in
    rw code (grind (arith, nat_tests))

-- a byte from 21 to 7E shows what the set of a pending single shift, or else that in GL, shows
pub glyph_read-low : (sets : GraphicSets) (b : ℕ) → 0x21 ≤ b → b ≤ 0x7E
    → glyph_read sets b ≡ Some (glyph_of (set_at sets (left_slot sets)) b)
unfolding glyph_read
glyph_read-low sets b low high =
    let read : Bool → Bool → Bool → ℕ → Option ℕ = λ none blank left code.
    if none then None else (if blank then Some space else Some
    (glyph_of (set_at sets (unwrap_or sets.pending (if left then sets.left else sets.right))) code)) in
    let code : b % 0x80 ≡ b = omega arith in
    ap (λ t. read t (eqb b 0x20) (ltb b 0x80) (b % 0x80)) (low_has_glyph b (omega arith) high)
    ∙ ap (λ t. read false t (ltb b 0x80) (b % 0x80)) (ne_eqb b 0x20 (omega arith))
    ∙ ap (λ t. read false false t (b % 0x80)) (lt-ltb b 0x80 (omega arith))
    ∙ ap (λ n. read false false true n) code

glyph_read-space : (sets : GraphicSets) → glyph_read sets 0x20 ≡ Some space
unfolding glyph_read
glyph_read-space sets = refl

-- a byte from 20 to 7E leaves no single shift pending
pub after_read-low : (sets : GraphicSets) (b : ℕ) → 0x20 ≤ b → b ≤ 0x7E
    → after_read sets b ≡ record sets { pending = None }
unfolding after_read
after_read-low sets b low high = ap (λ t. if t then sets else record sets { pending = None }) (low_has_glyph b low high)

-- where ASCII is read, a byte from 20 to 7E shows itself
pub glyph_read-ascii : (sets : GraphicSets) (b : ℕ) → set_at sets (left_slot sets) ≡ Ascii → 0x20 ≤ b → b ≤ 0x7E
    → glyph_read sets b ≡ Some b
unfolding glyph_of
glyph_read-ascii sets b ascii low high = go (eqb b 0x20) refl
  where
    go : (t : Bool) → eqb b 0x20 ≡ t → glyph_read sets b ≡ Some b
    go true e = let same = eqb-true b 0x20 e in ap (glyph_read sets) same ∙ (glyph_read-space sets ∙ ap Some (sym same))
    go false e = glyph_read-low sets b (more b e low) high ∙ ap (λ set. Some (glyph_of set b)) ascii
      where
        more : (n : ℕ) → eqb n 0x20 ≡ false → 0x20 ≤ n → 0x21 ≤ n
        more n h k = grind (arith, nat_tests)

-- ASCII in GL and no single shift
pub glyph_read-plain : (sets : GraphicSets) (b : ℕ) → (set_at sets sets.left ≡ Ascii) × (sets.pending ≡ None)
    → 0x20 ≤ b → b ≤ 0x7E → glyph_read sets b ≡ Some b
glyph_read-plain sets b plain low high =
    glyph_read-ascii sets b (ap (λ p. set_at sets (unwrap_or p sets.left)) plain.1 ∙ plain.0) low high

-- with no single shift pending a byte from 20 to 7E changes nothing
pub after_read-plain : (sets : GraphicSets) (b : ℕ) → sets.pending ≡ None → 0x20 ≤ b → b ≤ 0x7E
    → after_read sets b ≡ sets
after_read-plain sets b none low high =
    after_read-low sets b low high ∙ ap (λ p. record sets { pending = p }) (sym none)

-- reading keeps the sets sound
pub AreSoundSets-after_read : (sets : GraphicSets) (b : ℕ) → AreSoundSets sets → AreSoundSets (after_read sets b)
unfolding after_read
AreSoundSets-after_read sets b h = go (has_no_glyph b)
  where
    go : (t : Bool) → AreSoundSets (if t then sets else record sets { pending = None })
    go true = h
    go false = record { four = h.four; left = h.left; right = h.right; pending = search rules }

HasGlyph-has : (b : ℕ) → HasGlyph b → has_no_glyph b ≡ false
HasGlyph-has b (inl h) = low_has_glyph b h.0 h.1
HasGlyph-has b (inr h) =
    let low : 0x21 ≤ b % 0x80 = omega arith in
    let high : b % 0x80 ≤ 0x7E = omega arith in
    code (b % 0x80) low high
  where
    code : (n : ℕ) → 0x21 ≤ n → n ≤ 0x7E → not (eqb b 0x20) && (ltb n 0x21 || ltb 0x7E n) ≡ false
    code n low high = grind (arith, nat_tests)

-- with no single shift pending a byte is read through the sets in GL and GR
pub glyph_read-in_use : (sets : GraphicSets) (b : ℕ) → sets.pending ≡ None → HasGlyph b
    → glyph_read sets b ≡ Some (glyph_in_use (in_use sets) b)
unfolding glyph_read
glyph_read-in_use sets b none has =
    let read : Bool → Option ℕ → Option ℕ = λ missing pending.
    if missing then None else (if eqb b 0x20 then Some space else Some
    (glyph_of (set_at sets (unwrap_or pending (if ltb b 0x80 then sets.left else sets.right))) (b % 0x80))) in
    ap (λ t. read t sets.pending) (HasGlyph-has b has) ∙ ap (λ p. read false p) none ∙ go (eqb b 0x20) (ltb b 0x80)
  where
    go : (blank left : Bool) → (if blank then Some space else Some
        (glyph_of (set_at sets (if left then sets.left else sets.right)) (b % 0x80)))
        ≡ Some (if blank then space else glyph_of (if left then set_at sets sets.left else set_at sets sets.right)
        (b % 0x80))
    go true left = refl
    go false true = refl
    go false false = refl

pub after_read-in_use : (sets : GraphicSets) (b : ℕ) → sets.pending ≡ None → HasGlyph b → after_read sets b ≡ sets
unfolding after_read
after_read-in_use sets b none has =
    ap (λ t. if t then sets else record sets { pending = None }) (HasGlyph-has b has)
    ∙ ap (λ p. record sets { pending = p }) (sym none)
