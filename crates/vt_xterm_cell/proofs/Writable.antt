-- What a cell is made of can be written again.
use Rattle.std.proofs.Common.{◌≡◌, ℕ, ◌+◌, ◌-◌, ◌*◌, ◌/◌, ◌%◌, ◌<◌, ◌≤◌, Bool, true, false, IsTrue, arith, refl, sym, ap, ◌∙◌, inl, inr}
use Rattle.std.specs.Prelude.{◌==◌, ◌&&◌, ◌||◌, not, nat_le, nat_lt, if◌then◌else◌}
use Rattle.std.proofs.lemmas.Bool.{cases_lt, false≢true}
use Rattle.std.proofs.lemmas.Bool.Decides.{nat_tests, eqb_tells}
use lib.Utf8.{scalar}
use Rattle.vt_glyph.specs.Tables.{IsGlyph, glyph_of}
use Rattle.vt_glyph.proofs.EachSet.{glyph_passes}
use Rattle.vt_screen.specs.Grid.{is_within}
use Rattle.unicode_width.specs.Width.{char_width}
use Rattle.vt_utf8.specs.Cells.{cells}
use Rattle.vt_utf8.proofs.Widths.{looked_up, cells-looked_up}
use Rattle.vt_xterm_cell.specs.declared.look.Colour.TheVariants.{Indexed}
use Rattle.vt_xterm_cell.specs.Characters.{is_mark, has_columns, is_mark_or_none, is_shown}
use Rattle.vt_xterm_cell.specs.Words.{COLOURS, flag, colour_of, rgb_of, look_of, is_colour, has_colours, is_sound_cell, parts_of, IsText, IsLook}

-- ---- characters

few_cells : (c : ℕ) → cells c ≤ 2
unfolding cells
few_cells c = grind (arith, nat_tests)

-- ASCII has one cell, and a control none
low_cells : (c : ℕ) → c < 0xA0 → cells c ≡ (if nat_le 0x20 c && nat_lt c 0x7F then 1 else 0)
unfolding cells char_width
low_cells c low = grind (arith, nat_tests)

-- the tests of a character, with its cells as a number
columns_by : (c n : ℕ) (known : Bool) → n ≤ 2 → (c < 0xA0 → n ≡ (if nat_le 0x20 c && nat_lt c 0x7F then 1 else 0)) → known ≡ true
    → (n ≡ 0 → ⊥)
    → ((is_within 0x20 0x7E c && not (n == 2)) || (nat_le 0xA0 c && (known && n == (if n == 2 then 2 else 1)))) ≡ true
columns_by c n known few low is some = elim (cases_lt c 0xA0) [
  | inl below ↦ let known = low below in grind (arith, nat_tests)
  | inr beyond ↦ grind (arith, nat_tests)
]

pub character_columns : (c : ℕ) → scalar c ≡ true → (cells c ≡ 0 → ⊥) → has_columns c (cells c == 2) ≡ true
unfolding has_columns
character_columns c is some = columns_by c (cells c) (scalar c) (few_cells c) (low_cells c) is some

-- ---- glyphs

abbrev is_narrow : ℕ → Bool
is_narrow n = is_within 0x20 0x7E n || ((nat_le 0xA0 n && nat_lt n 0x11_0000) && (scalar n && looked_up n == 1))

glyph_narrow : (n : ℕ) → IsGlyph n → is_narrow n ≡ true
unfolding glyph_of looked_up
glyph_narrow n is = glyph_passes is_narrow refl refl n is

narrow_by : (n w : ℕ) (known : Bool) → (0xA0 ≤ n → n < 0x11_0000 → cells n ≡ w)
    → (is_within 0x20 0x7E n || ((nat_le 0xA0 n && nat_lt n 0x11_0000) && (known && w == 1))) ≡ true
    → ((is_within 0x20 0x7E n && true) || (nat_le 0xA0 n && (known && cells n == 1))) ≡ true
narrow_by n w known same is = elim (cases_lt n 0xA0) [
  | inl below ↦ grind (arith, nat_tests)
  | inr beyond ↦ elim (cases_lt n 0x11_0000) [
    | inl few ↦ rw (same beyond few) (grind (arith, nat_tests))
    | inr many ↦ grind (arith, nat_tests)
  ]
]

pub glyph_columns : (n : ℕ) → IsGlyph n → has_columns n false ≡ true
unfolding has_columns
glyph_columns n is = narrow_by n (looked_up n) (scalar n) (cells-looked_up n) (glyph_narrow n is)

glyph_few : (n : ℕ) → IsGlyph n → nat_lt n 0x11_0000 ≡ true
unfolding glyph_of
glyph_few n is = glyph_passes (λ n. nat_lt n 0x11_0000) refl refl n is

-- ---- cells

-- a character without marks
pub alone : (c : ℕ) (wide : Bool) → has_columns c wide ≡ true → is_shown c 0 0 wide ≡ true
unfolding is_shown is_mark_or_none
alone c wide is = rw is (grind arith)

-- the cell of a letter
pub letter_columns : (b : ℕ) → 0x20 ≤ b → b ≤ 0x7E → has_columns b false ≡ true
unfolding has_columns
letter_columns b low high = grind (arith, nat_tests)

-- a cell without its marks
pub bare : (c m o : ℕ) (wide : Bool) → is_shown c m o wide ≡ true → is_shown c 0 0 wide ≡ true
unfolding is_shown is_mark_or_none
bare c m o wide is = grind arith

-- a first mark, and a second one
pub marked_once : (c o x : ℕ) (wide : Bool) → is_shown c 0 o wide ≡ true → (not wide && c == 0) ≡ false → scalar x ≡ true → is_mark x ≡ true
    → is_shown c x o wide ≡ true
unfolding is_shown is_mark_or_none
marked_once c o x wide is first known mark = grind (arith, nat_tests)

pub marked_twice : (c m x : ℕ) (wide : Bool) → is_shown c m 0 wide ≡ true → (not wide && c == 0) ≡ false → (m ≡ 0 → ⊥) → scalar x ≡ true
    → is_mark x ≡ true → is_shown c m x wide ≡ true
unfolding is_shown is_mark_or_none
marked_twice c m x wide is first some known mark = grind (arith, nat_tests)

-- ---- the number of a text

pub text_is : (t c m o : ℕ) (wide : Bool) → t % 0x200000 ≡ c → t / 0x200000 % 0x200000 ≡ m → t / 0x40000000000 % 0x200000 ≡ o
    → nat_le 0x8000000000000000 t ≡ wide → t < 0x10000000000000000 → is_shown c m o wide ≡ true → IsText t
text_is t c m o wide a b d e small is = record { writable = rw (a, b, d, e) is; small = small }

pub narrow_text : (c : ℕ) → c < 0x110000 → has_columns c false ≡ true → IsText c
narrow_text c small is =
    text_is c c 0 0 false (omega arith) (omega arith) (omega arith) (grind (arith, nat_tests)) (omega arith) (alone c false is)

pub wide_text : (c w : ℕ) (wide : Bool) → c < 0x200000 → w ≡ flag wide → is_shown c 0 0 wide ≡ true → IsText (c + w * 0x8000000000000000)
wide_text c w true small one is =
    text_is _ c 0 0 true (omega arith) (omega arith) (omega arith) (grind (arith, nat_tests)) (omega arith) is
wide_text c w false small one is =
    text_is _ c 0 0 false (omega arith) (omega arith) (omega arith) (grind (arith, nat_tests)) (omega arith) is

pub glyph_text : (n : ℕ) → IsGlyph n → IsText n
glyph_text n is =
    let few = glyph_few n is in
    let small : n < 0x11_0000 = grind (arith, nat_tests) in
    narrow_text n small (glyph_columns n is)

-- a space, and nothing
pub space_text : IsText 0x20
space_text = narrow_text 0x20 (omega arith) (letter_columns 0x20 (omega arith) (omega arith))

pub empty_text : IsText 0
unfolding is_shown
empty_text = text_is 0 0 0 0 false refl refl refl refl (omega arith) refl

-- ---- no character is that of a second cell

and_false : (x : Bool) → (x && false) ≡ false
and_false true = refl
and_false false = refl

text_first : (t c : ℕ) → t % 0x200000 ≡ c → (c == 0) ≡ false → (not (nat_le 0x8000000000000000 t) && t % 0x200000 == 0) ≡ false
text_first t c is some = rw (is, some) (and_false _)

pub character_first : (c w : ℕ) → c < 0x110000 → (cells c ≡ 0 → ⊥)
    → (not (nat_le 0x8000000000000000 (c + w * 0x8000000000000000)) && (c + w * 0x8000000000000000) % 0x200000 == 0) ≡ false
character_first c w small some = text_first (c + w * 0x8000000000000000) c (omega arith) (elim (eqb_tells c 0) [
  | inl e ↦ absurd (some (ap cells e.1 ∙ low_cells 0 (omega arith)))
  | inr e ↦ e.0
])

some_of : (x : Bool) → (if x then false else true) ≡ true → x ≡ false
some_of true is = absurd (false≢true is)
some_of false is = refl

pub glyph_first : (n : ℕ) → IsGlyph n → (not (nat_le 0x8000000000000000 n) && n % 0x200000 == 0) ≡ false
unfolding glyph_of
glyph_first n is =
    let few = glyph_few n is in
    let small : n < 0x11_0000 = grind (arith, nat_tests) in
    text_first n n (omega arith) (some_of (n == 0) (glyph_passes (λ n. if n == 0 then false else true) refl refl n is))

-- ---- the colours of a look

pub colour_is : (n : ℕ) → n < COLOURS → is_colour (colour_of n) ≡ true
colour_is n small = elim (eqb_tells n 0) [
  | inl e ↦ rw e.0 refl
  | inr e ↦ rw e.0 (go (nat_lt n 0x101) refl)
]
  where
    go : (few : Bool) → nat_lt n 0x101 ≡ few → is_colour (if few then Indexed (n - 1) else rgb_of (n - 0x101)) ≡ true
    go true few = let low : n < 0x101 = grind (arith, nat_tests, few) in let byte : nat_lt (n - 1) 0x100 ≡ true = grind (arith, nat_tests, low) in byte
    go false few =
        let red : nat_lt ((n - 0x101) / 0x10000) 0x100 ≡ true = grind (arith, nat_tests, small) in
        let green : nat_lt ((n - 0x101) / 0x100 % 0x100) 0x100 ≡ true = grind (arith, nat_tests) in
        let blue : nat_lt ((n - 0x101) % 0x100) 0x100 ≡ true = grind (arith, nat_tests) in
        rw (red, green, blue) refl

pub look_is : (w : ℕ) → IsLook w → has_colours (look_of w) ≡ true
look_is w is = rw (colour_is (w % 0x4000000) is.foreground, colour_is (w / 0x4000000 % 0x4000000) is.background) refl

pub cell_is : (t w : ℕ) → IsText t → IsLook w → is_sound_cell (parts_of t w) ≡ true
cell_is t w text look = ap (λ (b : Bool). b && has_colours (look_of w)) text.writable ∙ look_is w look
