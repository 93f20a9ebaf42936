-- The numbers of a cell follow from its parts.
use Rattle.std.proofs.Common.{◌≡◌, ℕ, ◌+◌, ◌*◌, ◌/◌, ◌%◌, ◌<◌, arith, ap₂}
use Rattle.std.specs.Prelude.{◌==◌, nat_le}
use Rattle.std.proofs.lemmas.Bool.Decides.{nat_tests}
use Rattle.vt_xterm_cell.specs.declared.cell.XtermCell.TheInside.{Inside}
use Rattle.vt_xterm_cell.specs.Words.{COLOURS, flag, colour_number, colour_of, attributes_number, attributes_of, look_of, word_of_look}
use Rattle.vt_xterm_cell.specs.Words.{parts_of, text_word, IsText, IsLook}

colour_back : (n : ℕ) → n < COLOURS → colour_number (colour_of n) ≡ n
colour_back n small = grind (arith, nat_tests)

odd_back : (n : ℕ) → flag (n % 2 == 1) ≡ n % 2
odd_back n = grind (arith, nat_tests)

high_back : (n : ℕ) → n < 0x400 → flag (nat_le 0x200 n) ≡ n / 0x200
high_back n small = grind (arith, nat_tests)

wide_back : (n : ℕ) → n < 0x10000000000000000 → flag (nat_le 0x8000000000000000 n) ≡ n / 0x8000000000000000
wide_back n small = grind (arith, nat_tests)

flags_back : (n : ℕ) → n < 0x400 → attributes_number (attributes_of n) + 0x200 * flag (nat_le 0x200 n) ≡ n
flags_back n small =
    rw (
      odd_back n,
      odd_back (n / 2),
      odd_back (n / 4),
      odd_back (n / 8),
      odd_back (n / 0x10),
      odd_back (n / 0x20),
      odd_back (n / 0x40),
      odd_back (n / 0x80),
      odd_back (n / 0x100),
      high_back n small,
    ) (omega arith)

pub look_back : (w : ℕ) → IsLook w → word_of_look (look_of w) ≡ w
look_back w is =
    rw (
      colour_back (w % 0x4000000) is.foreground,
      colour_back (w / 0x4000000 % 0x4000000) is.background,
      flags_back (w / 0x4000000 / 0x4000000) is.flags,
    ) (omega arith)

text_back : (text look : ℕ) → IsText text → text_word (parts_of text look) ≡ text
text_back text look is = rw (wide_back text is.small) (omega (arith, is.small))

pub numbers_back : (c : Inside) → IsText c.text → IsLook c.look
    → record { text = text_word (parts_of c.text c.look); look = word_of_look (look_of c.look) } ≡ c
numbers_back c text look =
    ap₂ (λ text look. record { text = text; look = look }) (text_back c.text c.look text) (look_back c.look look)
