-- The characters of some ranges have one cell, and those of others two.
use Rattle.std.proofs.Common.{◌≡◌, ℕ, ◌+◌, ◌<◌, ◌≤◌, true, refl, sym, ap, ◌∙◌, arith, ◌&&◌}
use Rattle.std.specs.Prelude.{◌==◌, nat_le}
use Rattle.std.specs.List.{range_with_len, list_all}
use Rattle.std.proofs.lemmas.Bool.Decides.{nat_tests}
use Rattle.vt_glyph.proofs.Lists.{all_in_range}
use Rattle.vt_utf8.specs.Cells.{cells}
use Rattle.vt_utf8.proofs.Widths.{looked_up, cells-looked_up}

in-latin : list_all (λ c. looked_up c == 1) (range_with_len 0xA0 224) ≡ true
unfolding looked_up
in-latin = refl

in-lines : list_all (λ c. looked_up c == 1) (range_with_len 0x2500 128) ≡ true
unfolding looked_up
in-lines = refl

in-elements : list_all (λ c. looked_up c == 1) (range_with_len 0x2580 32) ≡ true
unfolding looked_up
in-elements = refl

in-punctuation : list_all (λ c. looked_up c == 1) (range_with_len 0x2010 24) ≡ true
unfolding looked_up
in-punctuation = refl

in-braille : list_all (λ c. looked_up c == 1) (range_with_len 0x2800 256) ≡ true
unfolding looked_up
in-braille = refl

in-replacement : list_all (λ c. looked_up c == 1) (range_with_len 0xFFFD 1) ≡ true
unfolding looked_up
in-replacement = refl

in-hiragana : list_all (λ c. looked_up c == 2) (range_with_len 0x3041 86) ≡ true
unfolding looked_up
in-hiragana = refl

in-katakana : list_all (λ c. looked_up c == 2) (range_with_len 0x30A1 95) ≡ true
unfolding looked_up
in-katakana = refl

in-han : list_all (λ c. looked_up c == 2) (range_with_len 0x4E00 0x5200) ≡ true
unfolding looked_up
in-han = refl

-- what is shown of the table holds of the cells
of_cells : (w a n c : ℕ) → list_all (λ k. looked_up k == w) (range_with_len a n) ≡ true → 0xA0 ≤ a → a + n < 0x11_0000
    → a ≤ c → c < a + n → true ≡ (cells c == w)
of_cells w a n c all beyond few low high =
    sym (ap (λ (k : ℕ). k == w) (cells-looked_up c (omega arith) (omega arith))
    ∙ all_in_range (λ (k : ℕ). looked_up k == w) a n c all low high)

-- a range from a to b, as the code tests for it
in_range : (w a b n c : ℕ) → list_all (λ k. looked_up k == w) (range_with_len a n) ≡ true → 0xA0 ≤ a → a + n ≡ b + 1
    → b < 0x10_FFFF → true ≡ (nat_le a c && nat_le c b) → true ≡ (cells c == w)
in_range w a b n c all beyond end few is =
    let low : a ≤ c = grind (arith, nat_tests) in
    let high : c ≤ b = grind (arith, nat_tests) in
    of_cells w a n c all beyond (omega arith) low (omega arith)

pub latin-narrow : (c : ℕ) → true ≡ (nat_le 0xA0 c && nat_le c 0x17F) → true ≡ (cells c == 1)
latin-narrow c is = in_range 1 0xA0 0x17F 224 c in-latin (omega arith) refl (omega arith) is

pub lines-narrow : (c : ℕ) → true ≡ (nat_le 0x2500 c && nat_le c 0x257F) → true ≡ (cells c == 1)
lines-narrow c is = in_range 1 0x2500 0x257F 128 c in-lines (omega arith) refl (omega arith) is

pub elements-narrow : (c : ℕ) → true ≡ (nat_le 0x2580 c && nat_le c 0x259F) → true ≡ (cells c == 1)
elements-narrow c is = in_range 1 0x2580 0x259F 32 c in-elements (omega arith) refl (omega arith) is

pub punctuation-narrow : (c : ℕ) → true ≡ (nat_le 0x2010 c && nat_le c 0x2027) → true ≡ (cells c == 1)
punctuation-narrow c is = in_range 1 0x2010 0x2027 24 c in-punctuation (omega arith) refl (omega arith) is

pub braille-narrow : (c : ℕ) → true ≡ (nat_le 0x2800 c && nat_le c 0x28FF) → true ≡ (cells c == 1)
braille-narrow c is = in_range 1 0x2800 0x28FF 256 c in-braille (omega arith) refl (omega arith) is

pub replacement-narrow : (c : ℕ) → true ≡ (nat_le 0xFFFD c && nat_le c 0xFFFD) → true ≡ (cells c == 1)
replacement-narrow c is = in_range 1 0xFFFD 0xFFFD 1 c in-replacement (omega arith) refl (omega arith) is

pub hiragana-wide : (c : ℕ) → true ≡ (nat_le 0x3041 c && nat_le c 0x3096) → true ≡ (cells c == 2)
hiragana-wide c is = in_range 2 0x3041 0x3096 86 c in-hiragana (omega arith) refl (omega arith) is

pub katakana-wide : (c : ℕ) → true ≡ (nat_le 0x30A1 c && nat_le c 0x30FF) → true ≡ (cells c == 2)
katakana-wide c is = in_range 2 0x30A1 0x30FF 95 c in-katakana (omega arith) refl (omega arith) is

pub han-wide : (c : ℕ) → true ≡ (nat_le 0x4E00 c && nat_le c 0x9FFF) → true ≡ (cells c == 2)
han-wide c is = in_range 2 0x4E00 0x9FFF 0x5200 c in-han (omega arith) refl (omega arith) is
