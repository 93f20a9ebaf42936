-- The number of attributes gives them back.
use Rattle.std.proofs.Common.{◌≡◌, ℕ, ◌+◌, ◌*◌, ◌/◌, ◌%◌, ◌<◌, Bool, true, false, arith, refl}
use Rattle.std.specs.Prelude.{◌==◌}
use mir.Val.{bool_byte}
use Rattle.vt_xterm_cell.specs.declared.look.Attributes.{Attributes}
use Rattle.vt_xterm_cell.specs.Words.{flag, attributes_of, attributes_number}

pub bool_bit : (b : Bool) → bool_byte b ≡ flag b
bool_bit true = refl
bool_bit false = refl

bit-lt : (b : Bool) → flag b < 2
bit-lt true = omega arith
bit-lt false = omega arith

told : (b : Bool) (n : ℕ) → n ≡ flag b → (n == 1) ≡ b
told true n is = rw is refl
told false n is = rw is refl

module _ (a b c d e f g h i m : ℕ) (a2 : a < 2) (b2 : b < 2) (c2 : c < 2) (d2 : d < 2) (e2 : e < 2) (f2 : f < 2) (g2 : g < 2)
    (h2 : h < 2) (i2 : i < 2) where
  abbrev sum : ℕ
  sum = a + 2 * b + 4 * c + 8 * d + 0x10 * e + 0x20 * f + 0x40 * g + 0x80 * h + 0x100 * i + 0x200 * m

  bit_0 : sum % 2 ≡ a
  bit_0 = omega arith

  bit_1 : sum / 2 % 2 ≡ b
  bit_1 = omega arith

  bit_2 : sum / 4 % 2 ≡ c
  bit_2 = omega arith

  bit_3 : sum / 8 % 2 ≡ d
  bit_3 = omega arith

  bit_4 : sum / 0x10 % 2 ≡ e
  bit_4 = omega arith

  bit_5 : sum / 0x20 % 2 ≡ f
  bit_5 = omega arith

  bit_6 : sum / 0x40 % 2 ≡ g
  bit_6 = omega arith

  bit_7 : sum / 0x80 % 2 ≡ h
  bit_7 = omega arith

  bit_8 : sum / 0x100 % 2 ≡ i
  bit_8 = omega arith

pub attributes_back : (a : Attributes) (m : ℕ) → attributes_of (attributes_number a + 0x200 * m) ≡ a
attributes_back a m =
    rw (
      told a.bold _ (bit_0 (flag a.bold) (flag a.faint) (flag a.italic) (flag a.underlined) (flag a.doubly_underlined) (flag a.blinking) (flag a.reverse) (flag a.invisible) (flag a.crossed_out) m (bit-lt a.bold) (bit-lt a.faint) (bit-lt a.italic) (bit-lt a.underlined) (bit-lt a.doubly_underlined) (bit-lt a.blinking) (bit-lt a.reverse) (bit-lt a.invisible) (bit-lt a.crossed_out)),
      told a.faint _ (bit_1 (flag a.bold) (flag a.faint) (flag a.italic) (flag a.underlined) (flag a.doubly_underlined) (flag a.blinking) (flag a.reverse) (flag a.invisible) (flag a.crossed_out) m (bit-lt a.bold) (bit-lt a.faint) (bit-lt a.italic) (bit-lt a.underlined) (bit-lt a.doubly_underlined) (bit-lt a.blinking) (bit-lt a.reverse) (bit-lt a.invisible) (bit-lt a.crossed_out)),
      told a.italic _ (bit_2 (flag a.bold) (flag a.faint) (flag a.italic) (flag a.underlined) (flag a.doubly_underlined) (flag a.blinking) (flag a.reverse) (flag a.invisible) (flag a.crossed_out) m (bit-lt a.bold) (bit-lt a.faint) (bit-lt a.italic) (bit-lt a.underlined) (bit-lt a.doubly_underlined) (bit-lt a.blinking) (bit-lt a.reverse) (bit-lt a.invisible) (bit-lt a.crossed_out)),
      told a.underlined _ (bit_3 (flag a.bold) (flag a.faint) (flag a.italic) (flag a.underlined) (flag a.doubly_underlined) (flag a.blinking) (flag a.reverse) (flag a.invisible) (flag a.crossed_out) m (bit-lt a.bold) (bit-lt a.faint) (bit-lt a.italic) (bit-lt a.underlined) (bit-lt a.doubly_underlined) (bit-lt a.blinking) (bit-lt a.reverse) (bit-lt a.invisible) (bit-lt a.crossed_out)),
      told a.doubly_underlined _ (bit_4 (flag a.bold) (flag a.faint) (flag a.italic) (flag a.underlined) (flag a.doubly_underlined) (flag a.blinking) (flag a.reverse) (flag a.invisible) (flag a.crossed_out) m (bit-lt a.bold) (bit-lt a.faint) (bit-lt a.italic) (bit-lt a.underlined) (bit-lt a.doubly_underlined) (bit-lt a.blinking) (bit-lt a.reverse) (bit-lt a.invisible) (bit-lt a.crossed_out)),
      told a.blinking _ (bit_5 (flag a.bold) (flag a.faint) (flag a.italic) (flag a.underlined) (flag a.doubly_underlined) (flag a.blinking) (flag a.reverse) (flag a.invisible) (flag a.crossed_out) m (bit-lt a.bold) (bit-lt a.faint) (bit-lt a.italic) (bit-lt a.underlined) (bit-lt a.doubly_underlined) (bit-lt a.blinking) (bit-lt a.reverse) (bit-lt a.invisible) (bit-lt a.crossed_out)),
      told a.reverse _ (bit_6 (flag a.bold) (flag a.faint) (flag a.italic) (flag a.underlined) (flag a.doubly_underlined) (flag a.blinking) (flag a.reverse) (flag a.invisible) (flag a.crossed_out) m (bit-lt a.bold) (bit-lt a.faint) (bit-lt a.italic) (bit-lt a.underlined) (bit-lt a.doubly_underlined) (bit-lt a.blinking) (bit-lt a.reverse) (bit-lt a.invisible) (bit-lt a.crossed_out)),
      told a.invisible _ (bit_7 (flag a.bold) (flag a.faint) (flag a.italic) (flag a.underlined) (flag a.doubly_underlined) (flag a.blinking) (flag a.reverse) (flag a.invisible) (flag a.crossed_out) m (bit-lt a.bold) (bit-lt a.faint) (bit-lt a.italic) (bit-lt a.underlined) (bit-lt a.doubly_underlined) (bit-lt a.blinking) (bit-lt a.reverse) (bit-lt a.invisible) (bit-lt a.crossed_out)),
      told a.crossed_out _ (bit_8 (flag a.bold) (flag a.faint) (flag a.italic) (flag a.underlined) (flag a.doubly_underlined) (flag a.blinking) (flag a.reverse) (flag a.invisible) (flag a.crossed_out) m (bit-lt a.bold) (bit-lt a.faint) (bit-lt a.italic) (bit-lt a.underlined) (bit-lt a.doubly_underlined) (bit-lt a.blinking) (bit-lt a.reverse) (bit-lt a.invisible) (bit-lt a.crossed_out)),
    ) refl

low_0 : (n m : ℕ) → (n % 0x200 + 0x200 * m) % 2 ≡ n % 2
low_0 n m = omega arith

low_1 : (n m : ℕ) → (n % 0x200 + 0x200 * m) / 2 % 2 ≡ n / 2 % 2
low_1 n m = omega arith

low_2 : (n m : ℕ) → (n % 0x200 + 0x200 * m) / 4 % 2 ≡ n / 4 % 2
low_2 n m = omega arith

low_3 : (n m : ℕ) → (n % 0x200 + 0x200 * m) / 8 % 2 ≡ n / 8 % 2
low_3 n m = omega arith

low_4 : (n m : ℕ) → (n % 0x200 + 0x200 * m) / 0x10 % 2 ≡ n / 0x10 % 2
low_4 n m = omega arith

low_5 : (n m : ℕ) → (n % 0x200 + 0x200 * m) / 0x20 % 2 ≡ n / 0x20 % 2
low_5 n m = omega arith

low_6 : (n m : ℕ) → (n % 0x200 + 0x200 * m) / 0x40 % 2 ≡ n / 0x40 % 2
low_6 n m = omega arith

low_7 : (n m : ℕ) → (n % 0x200 + 0x200 * m) / 0x80 % 2 ≡ n / 0x80 % 2
low_7 n m = omega arith

low_8 : (n m : ℕ) → (n % 0x200 + 0x200 * m) / 0x100 % 2 ≡ n / 0x100 % 2
low_8 n m = omega arith

pub attributes_low : (n m : ℕ) → attributes_of (n % 0x200 + 0x200 * m) ≡ attributes_of n
attributes_low n m =
    rw (low_0 n m, low_1 n m, low_2 n m, low_3 n m, low_4 n m, low_5 n m, low_6 n m, low_7 n m, low_8 n m) refl
