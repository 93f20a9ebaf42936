-- Characters that are written at once are written as they are one after another.
use Rattle.std.specs.Prelude.{◌≡◌, ℕ, ◌+◌, ◌≤◌, List, [], ◌∷◌, ◌++◌, length}
use Rattle.vt_screen.specs.Grid.{GridOf}
use Rattle.vt_wide.specs.Kinds.{WideOf, IsLetter, IsNarrow}
use Rattle.vt_wide.specs.Edits.{written, written_bytes}

pub record RunLaws {C : Type 0} (k : WideOf C) (z : C) : Type 0 where
  pub one : (empty : C) (g : GridOf C) (row col b : ℕ) (pen : C) → IsLetter b
      → written_bytes k z empty g row col (b ∷ []) pen ≡ written k z empty g row col (k.with_byte pen b)
  pub append : (empty : C) (g : GridOf C) (row col : ℕ) (a b : List ℕ) (pen : C) → IsNarrow k empty → 1 ≤ row → row ≤ g.size.rows
      → 1 ≤ length a → 1 ≤ length b
      → written_bytes k z empty g row col (a ++ b) pen
      ≡ written_bytes k z empty (written_bytes k z empty g row col a pen) row (col + length a) b pen
