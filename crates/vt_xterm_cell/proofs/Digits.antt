-- The parts of the two numbers of a cell.
use Rattle.std.proofs.Common.{◌≡◌, ℕ, ◌+◌, ◌*◌, ◌/◌, ◌%◌, ◌<◌, true, false, IsTrue, nat_eq, arith, ap, ap₂, sym, ◌∙◌, refl}
use Rattle.std.specs.Prelude.{◌&&◌, ◌==◌, not, nat_le}
use Rattle.std.proofs.lemmas.Bool.Decides.{nat_tests}
use lib.Utf8.{scalar}
use Rattle.vt_xterm_cell.specs.Words.{COLOURS, look_of, look_by, word_of_look, parts_of, IsText, IsLook}
use Rattle.vt_xterm_cell.specs.Characters.{is_mark}
use Rattle.vt_xterm_cell.specs.Back.{look_back}
use Rattle.vt_xterm_cell.proofs.Writable.{text_is, marked_once, marked_twice}

low : (a b c : ℕ) → a < COLOURS → (a + 0x4000000 * (b + 0x4000000 * c)) % 0x4000000 ≡ a
low a b c small = omega arith

above : (a n : ℕ) → a < COLOURS → (a + 0x4000000 * n) / 0x4000000 ≡ n
above a n small = omega arith

high : (b c : ℕ) → b < COLOURS → (b + 0x4000000 * c) % 0x4000000 ≡ b
high b c small = omega arith

pub joined_is : (a b c : ℕ) → a < COLOURS → b < COLOURS
    → look_of (a + 0x4000000 * (b + 0x4000000 * c)) ≡ look_by a b c
joined_is a b c small little = rw (low a b c small, above a (b + 0x4000000 * c) small, high b c little, above b c little) refl

-- ---- marks

pub first_marked : (t x : ℕ) → IsText t → (not (nat_le 0x8000000000000000 t) && t % 0x200000 == 0) ≡ false → scalar x ≡ true → is_mark x ≡ true → x < 0x110000
    → t / 0x200000 % 0x200000 ≡ 0 → IsText (t + x * 0x200000)
first_marked t x is first known mark small none =
    text_is _ (t % 0x200000) x (t / 0x40000000000 % 0x200000) (nat_le 0x8000000000000000 t) (omega arith) (omega arith) (omega arith)
    (grind (arith, nat_tests)) (omega (arith, is.small))
    (marked_once _ _ x _ (rw (← none) is.writable) first known mark)

pub second_marked : (t x : ℕ) → IsText t → (not (nat_le 0x8000000000000000 t) && t % 0x200000 == 0) ≡ false → scalar x ≡ true → is_mark x ≡ true → x < 0x110000
    → (t / 0x200000 % 0x200000 ≡ 0 → ⊥) → t / 0x40000000000 % 0x200000 ≡ 0 → IsText (t + x * 0x40000000000)
second_marked t x is first known mark small some none =
    text_is _ (t % 0x200000) (t / 0x200000 % 0x200000) x (nat_le 0x8000000000000000 t) (omega arith) (omega arith) (omega arith)
    (grind (arith, nat_tests)) (omega (arith, is.small))
    (marked_twice _ _ x _ (rw (← none) is.writable) first some known mark)

-- ---- equality

pub same_looks : (t u l m : ℕ) → IsLook l → IsLook m → t ≡ u
    → (IsTrue (nat_eq l m) → parts_of t l ≡ parts_of u m) × (parts_of t l ≡ parts_of u m → IsTrue (nat_eq l m))
same_looks t u l m is are same = (
  λ h. let b : l ≡ m = grind (arith, nat_tests) in ap₂ parts_of same b,
  λ e. let b : l ≡ m = sym (look_back l is) ∙ ap (λ p. word_of_look p.look) e ∙ look_back m are in grind (arith, nat_tests),
)
