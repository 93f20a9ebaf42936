-- The rows that are kept, in parts.
use Rattle.std.proofs.Common.{◌≡◌, ℕ, ◌+◌, ◌*◌, List, [], ◌++◌, sym, subst, arith}
use Rattle.vt_screen.specs.declared.cell.Cell.{Cell}
use Rattle.vt_utf8.specs.Logs.{AreKept}

abbrev pub Rows : Type 0
Rows = List (List Cell)

module _ {O : Type 0} (Keeps : O → Rows → O → Type 0) (HasRoom IsFull : O → ℕ → Type 0) (kept : AreKept Keeps HasRoom IsFull) where
  pub keeps-nothing : (o : O) (rows : Rows) → rows ≡ [] → Keeps o rows o
  keeps-nothing o rows is = subst (λ (r : Rows). Keeps o r o) (sym is) (kept.nothing o)

  pub keeps-both : (o p q : O) (a b rows : Rows) → Keeps o a p → Keeps p b q → rows ≡ a ++ b → Keeps o rows q
  keeps-both o p q a b rows first second is = subst (λ (r : Rows). Keeps o r q) (sym is) (kept.more o p q a b first second)

  -- capacity for two characters is capacity for one, and for one after another
  pub room-once : (o : O) (most : ℕ) → HasRoom o (2 * most) → HasRoom o most
  room-once o most room = kept.less o most (2 * most) (omega arith) room

  pub room-each : (o : O) (most : ℕ) → HasRoom o (2 * most) → HasRoom o (most + most)
  room-each o most room = kept.less o (most + most) (2 * most) (omega arith) room
