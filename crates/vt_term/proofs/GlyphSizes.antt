-- A glyph's character is below 10000, so it takes at most three bytes of UTF-8, and a number below 1000 three digits.
use Rattle.std.proofs.Common.{◌≡◌, ℕ, ◌≤◌, ◌<◌, Bool, true, length, nat_lt, refl, arith}
use Rattle.std.specs.Fmt.{decimal}
use Rattle.std.proofs.lemmas.Bool.Decides.{nat_tests}
use Rattle.std.proofs.lemmas.Fmt.{length-decimal-le}
use Rattle.vt_glyph.specs.Tables.{IsGlyph, glyph_of}
use Rattle.vt_glyph.proofs.EachSet.{glyph_passes}

abbrev is_short : ℕ → Bool
is_short n = nat_lt n 0x10000

pub glyph_short : (n : ℕ) → IsGlyph n → n < 0x10000
unfolding glyph_of
glyph_short n is =
    let test : is_short n ≡ true = glyph_passes is_short refl refl n is in
    grind (arith, nat_tests, test)

pub decimal_short : (n : ℕ) → n < 1000 → length (decimal n) ≤ 3
decimal_short n small = length-decimal-le 3 n (omega arith) (omega (arith, small)) (omega (arith, small))
