-- The numbers of a cell that can be written are characters.
use Rattle.std.proofs.Common.{◌≡◌, ℕ, ◌≤◌, ◌⊎◌, inl, inr, Bool, true, false, not, refl, arith}
use Rattle.std.specs.Prelude.{nat_le, nat_lt, ◌==◌, ◌&&◌, ◌||◌, if◌then◌else◌}
use lib.Utf8.{scalar, low_scalar}
use Rattle.std.proofs.lemmas.Bool.{and_parts}
use Rattle.std.proofs.lemmas.Bool.Decides.{nat_tests}
use Rattle.vt_syntax.specs.Class.{IsPlain}
use Rattle.vt_screen.specs.Grid.{is_within}
use Rattle.vt_utf8.specs.Cells.{cells}
use Rattle.vt_xterm_cell.specs.Words.{CellParts, is_writable, has_colours, is_sound_cell}
use Rattle.vt_xterm_cell.specs.Characters.{is_shown, is_empty, has_columns, is_mark, is_mark_or_none, is_format, are_marks}

either_true : (a b : Bool) → (a || b) ≡ true → (a ≡ true) ⊎ (b ≡ true)
either_true true b is = inl refl
either_true false b is = inr is

-- a mark, or none
pub mark_parts : (m : ℕ) → is_mark_or_none m ≡ true → (scalar m ≡ true) × ((m ≡ 0) ⊎ (0x80 ≤ m))
unfolding is_mark_or_none is_mark
mark_parts m is = go (either_true (m == 0) (scalar m && is_mark m) is)
  where
    go : ((m == 0) ≡ true) ⊎ ((scalar m && is_mark m) ≡ true) → (scalar m ≡ true) × ((m ≡ 0) ⊎ (0x80 ≤ m))
    go (inl e) = let none : m ≡ 0 = grind (arith, nat_tests, e) in (low_scalar m (omega (arith, none)), inl none)
    go (inr e) =
        let parts = and_parts (scalar m) (is_mark m) e in
        let more = and_parts (cells m == 0) (nat_lt 0x2FF m && not (is_format m)) parts.1 in
        let beyond = (and_parts (nat_lt 0x2FF m) (not (is_format m)) more.1).0 in
        (parts.0, inr (grind (arith, nat_tests, beyond)))

-- a character of some columns
pub character_parts : (c : ℕ) (wide : Bool) → has_columns c wide ≡ true → (scalar c ≡ true) × (IsPlain c ⊎ (0x80 ≤ c))
unfolding has_columns
character_parts c wide is =
    go (either_true (is_within 0x20 0x7E c && not wide) (nat_le 0xA0 c && (scalar c && cells c == (if wide then 2 else 1))) is)
  where
    go : ((is_within 0x20 0x7E c && not wide) ≡ true) ⊎ ((nat_le 0xA0 c && (scalar c && cells c == (if wide then 2 else 1))) ≡ true)
        → (scalar c ≡ true) × (IsPlain c ⊎ (0x80 ≤ c))
    go (inl e) =
        let parts = (and_parts (is_within 0x20 0x7E c) (not wide) e).0 in
        let low : 0x20 ≤ c = grind (arith, nat_tests, parts) in
        let high : c ≤ 0x7E = grind (arith, nat_tests, parts) in
        (low_scalar c (omega (arith, high)), inl (low, high))
    go (inr e) =
        let parts = and_parts (nat_le 0xA0 c) (scalar c && cells c == (if wide then 2 else 1)) e in
        let more = and_parts (scalar c) (cells c == (if wide then 2 else 1)) parts.1 in
        let beyond = parts.0 in
        (more.0, inr (grind (arith, nat_tests, beyond)))

empty_parts : (x : CellParts) → is_empty x.character x.mark x.other_mark x.wide ≡ true → (x.character ≡ 0) × (x.mark ≡ 0) × (x.other_mark ≡ 0)
empty_parts x is =
    let two = and_parts (x.character == 0 && not x.wide) (x.mark == 0 && x.other_mark == 0) is in
    let first = (and_parts (x.character == 0) (not x.wide) two.0).0 in
    let marks = and_parts (x.mark == 0) (x.other_mark == 0) two.1 in
    let mark = marks.0 in
    let other = marks.1 in
    (grind (arith, nat_tests, first), grind (arith, nat_tests, mark), grind (arith, nat_tests, other))

-- the character and the marks of a cell are scalar values
pub shown-scalars : (x : CellParts) → is_sound_cell x ≡ true
    → (scalar x.character ≡ true) × (scalar x.mark ≡ true) × (scalar x.other_mark ≡ true)
unfolding is_shown
shown-scalars x is =
    go (either_true (is_empty x.character x.mark x.other_mark x.wide) (has_columns x.character x.wide && are_marks x.mark x.other_mark)
    (and_parts (is_writable x) (has_colours x.look) is).0)
  where
    go : (is_empty x.character x.mark x.other_mark x.wide ≡ true) ⊎ ((has_columns x.character x.wide && are_marks x.mark x.other_mark) ≡ true)
        → (scalar x.character ≡ true) × (scalar x.mark ≡ true) × (scalar x.other_mark ≡ true)
    go (inl e) =
        let none = empty_parts x e in
        (low_scalar x.character (omega (arith, none.0)), low_scalar x.mark (omega (arith, none.1)), low_scalar x.other_mark (omega (arith, none.2)))
    go (inr e) =
        let parts = and_parts (has_columns x.character x.wide) (are_marks x.mark x.other_mark) e in
        let marks = and_parts (is_mark_or_none x.mark) _ parts.1 in (
          (character_parts x.character x.wide parts.0).0,
          (mark_parts x.mark marks.0).0,
          (mark_parts x.other_mark (and_parts (is_mark_or_none x.other_mark) _ marks.1).0).0,
        )
