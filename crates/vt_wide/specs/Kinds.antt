-- Kinds of cells with wide characters: what is done to a cell.
use Rattle.std.specs.Prelude.{◌≡◌, ◌⊎◌, ℕ, ◌≤◌, nat_le, Bool, true, false}

pub record WideOf (C : Type 0) : Type 0 where
  -- it is the first cell of a wide character, or the second one
  pub is_wide : C → Bool
  pub is_second : C → Bool
  -- the second cell of the character that a cell begins
  pub second : C → C
  -- a mark joins the character of a cell
  pub marked : C → ℕ → C
  -- a space with the look of a cell
  pub spaced : C → C
  -- the cell that a pen writes for an ASCII character
  pub with_byte : C → ℕ → C

-- a byte of ASCII that a cell shows
abbrev pub IsLetter : ℕ → Type 0
IsLetter b = (0x20 ≤ b) × (b ≤ 0x7E)

-- it is no half of a wide character
pub record IsNarrow {C : Type 0} (k : WideOf C) (cell : C) : Type 0 where
  pub wide : k.is_wide cell ≡ false
  pub second : k.is_second cell ≡ false

-- a cell is at most one half of a wide character, with its marks too, and a second one begins none
pub record AreHalves {C : Type 0} (k : WideOf C) : Type 0 where
  pub first : (cell : C) → k.is_wide cell ≡ true → k.is_second cell ≡ false
  pub ends : (cell : C) → k.is_wide (k.second cell) ≡ false
  pub second : (cell : C) → k.is_second (k.second cell) ≡ true
  pub marked_wide : (cell : C) (mark : ℕ) → k.is_wide (k.marked cell mark) ≡ k.is_wide cell
  pub marked_first : (cell : C) (mark : ℕ) → k.is_second (k.marked cell mark) ≡ k.is_second cell
  pub marked_second : (cell : C) (mark : ℕ) → k.second (k.marked cell mark) ≡ k.second cell
  pub spaced : (cell : C) → IsNarrow k (k.spaced cell)
  pub letter : (cell : C) (b : ℕ) → nat_le 0x20 b ≡ true → IsNarrow k (k.with_byte cell b)

-- a change of cells makes no half of a wide character, and leaves such a character as it is, or nothing of it
pub record KeepsWhole {C : Type 0} (k : WideOf C) (change : C → C) : Type 0 where
  pub no_first : (cell : C) → k.is_wide cell ≡ false → k.is_wide (change cell) ≡ false
  pub no_second : (cell : C) → k.is_second cell ≡ false → k.is_second (change cell) ≡ false
  pub wide : (cell : C) → k.is_wide cell ≡ true → ((change cell ≡ cell) × (change (k.second cell) ≡ k.second cell))
      ⊎ (IsNarrow k (change cell) × IsNarrow k (change (k.second cell)))
