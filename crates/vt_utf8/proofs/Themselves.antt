-- The 204 glyphs are shown as themselves.
use Rattle.std.proofs.Common.{◌≡◌, ℕ, ◌≤◌, Bool, true, false, refl, arith}
use Rattle.std.specs.Prelude.{◌==◌, ◌||◌, nat_lt}
use Rattle.std.proofs.lemmas.Bool.{eqb-true}
use Rattle.std.proofs.lemmas.Bool.Decides.{nat_tests}
use Rattle.vt_glyph.specs.Tables.{IsGlyph, glyph_of}
use Rattle.vt_glyph.proofs.EachSet.{glyph_passes}
use Rattle.vt_utf8.specs.Similar.{latin, lines, letters, signs, shown}

-- it is below U+00A0, or shown as itself
unfoldable is_itself : ℕ → Bool
is_itself n = nat_lt n 0xA0 || shown n == n

all-itself : (n : ℕ) → IsGlyph n → is_itself n ≡ true
unfolding glyph_of is_itself shown latin lines letters signs
all-itself = glyph_passes is_itself refl refl

-- a glyph beyond ASCII is shown as itself
pub shown-itself : (n : ℕ) → IsGlyph n → 0xA0 ≤ n → shown n ≡ n
unfolding is_itself
shown-itself n is beyond =
    let above : nat_lt n 0xA0 ≡ false = grind (arith, nat_tests) in
    let same : (nat_lt n 0xA0 || shown n == n) ≡ true = all-itself n is in
    eqb-true (shown n) n (rw above at same)
